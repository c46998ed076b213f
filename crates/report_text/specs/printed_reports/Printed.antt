-- Which reports of a run are printed.
use Rattle.std.specs.Prelude.{◌≡◌, ◌<◌, ◌^◌, ◌||◌, ℕ, Bool, List, Option, None, Some, false, filter, not}
use Rattle.std.specs.FinMap as found
use Rattle.access_types.specs.Access.{Access}
use Rattle.access_types.specs.Kind.{is_assertion}
use Rattle.access_types.specs.Sites.{AccessMap}
use Rattle.access_types.specs.declared.report.Report.{Report}
use Rattle.access_types.specs.declared.report.Report.TheVariants.{Two, Unknown}

-- the access is there, and asserts nothing
abbrev pub asserts_nothing : Option Access → Bool
asserts_nothing None = false
asserts_nothing (Some access) = not (is_assertion access.kind)

-- The report is of unknown origin, of an access that asserts nothing. Of such an access KCSAN makes none where the
-- kernel is built without CONFIG_KCSAN_REPORT_RACE_UNKNOWN_ORIGIN; that of an assertion it makes in any case.
abbrev pub is_hidden : AccessMap → Report → Bool
is_hidden sites (Two setter finder seen) = false
is_hidden sites (Unknown setter old new) = asserts_nothing (found.get sites setter)

-- a report is printed where those of unknown origin are wanted, or where it isn't hidden
abbrev pub is_printed : (unknown : Bool) → AccessMap → Report → Bool
is_printed unknown sites report = unknown || not (is_hidden sites report)

-- the reports that are printed
abbrev pub printed_reports : (unknown : Bool) → AccessMap → List Report → List Report
printed_reports unknown sites reports = filter (is_printed unknown sites) reports

-- the numbers of the accesses' tasks have 64 bits
abbrev pub AreNumbered : AccessMap → Type 0
AreNumbered sites = (ticket : ℕ) (access : Access) → found.get sites ticket ≡ Some access → access.task < 2 ^ 64
