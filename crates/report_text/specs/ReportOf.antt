-- The text of a report, by the accesses that its tickets name.
use Rattle.std.specs.Prelude.{ℕ, List, [], Option, None, Some, IsSome}
use Rattle.std.specs.FinMap as map
use Rattle.access_types.specs.Access.{Access}
use Rattle.access_types.specs.ReportText.{two_sided_text, unknown_text}
use Rattle.access_types.specs.Sites.{AccessMap}
use Rattle.access_types.specs.declared.report.Report.{Report}
use Rattle.access_types.specs.declared.report.Report.TheVariants.{Two, Unknown}
use Rattle.access_types.specs.declared.report.ValueChange.{ValueChange}

-- the tickets of the report name accesses that are there
abbrev pub NamesAccesses : AccessMap → Report → Type 0
NamesAccesses sites (Two setter finder seen) =
    IsSome (map.get sites setter) × IsSome (map.get sites finder)
NamesAccesses sites (Unknown setter old new) = IsSome (map.get sites setter)

-- the text of a report of two accesses
abbrev pub two_text : Option Access → Option Access → Option ValueChange → List ℕ
two_text (Some setter) (Some finder) seen = two_sided_text setter finder seen
two_text _ _ seen = []

-- the text of a report of unknown origin
abbrev pub origin_text : Option Access → ValueChange → List ℕ
origin_text (Some setter) change = unknown_text setter change
origin_text None change = []

-- the text of a report, of the accesses that its tickets name
abbrev pub report_text : AccessMap → Report → List ℕ
report_text sites (Two setter finder seen) =
    two_text (map.get sites setter) (map.get sites finder) seen
report_text sites (Unknown setter old new) =
    origin_text (map.get sites setter) (record { old = old; new = new })
