-- The reports that are found, as values of JSON. The members of an object are in the order of their keys.
use Rattle.std.specs.Prelude.{ℕ, Bool, List, None, Option, Some, codes, find, if◌then◌else◌, option_map}
use Rattle.std.specs.FinMap as found
use Rattle.access_types.specs.Access.{Access}
use Rattle.access_types.specs.Kind.{access_words}
use Rattle.access_types.specs.Sites.{AccessMap}
use Rattle.access_types.specs.declared.report.Report.{Report}
use Rattle.access_types.specs.declared.report.Report.TheVariants.{Two, Unknown}
use Rattle.access_types.specs.declared.report.ValueChange.{ValueChange}
use Rattle.litmus_semantics.specs.Layout.{VariablePlace}
use Rattle.litmus_syntax.specs.declared.program.Variable.{Variable}
use Rattle.output_pieces.specs.Values.{column_data, line_data, schedule_data, statement_data, text_data}
use Rattle.output_pieces.specs.Spots.{place_of}
use Rattle.output_pieces.specs.Variables.{name_of, variable_of}
use Rattle.report_text.specs.Groups.{is_text}
use Rattle.report_text.specs.ReportOf.{report_text}
use Rattle.search_text.specs.Times.{Sighting, Times}
use Rattle.serde_json.specs.Data.{Data, member, no_members, null, number, object, string, unsigned}

-- a number, if it is known
abbrev pub number_data : Option ℕ → Data
number_data None = null
number_data (Some n) = number (unsigned n)

-- a number of schedules, if numbers are known
abbrev pub count_data : (counted : Bool) → ℕ → Data
count_data counted times = if counted then number (unsigned times) else null

-- an access whose variable has this name, at this place in the text, if that is known
unfoldable pub told_data : (text : List ℕ) → (at : Option ℕ) → (name : List ℕ) → Access → Data
told_data text at name access = object
    (member (codes "access") (string (access_words access.kind)) (member (codes "address") (number (unsigned access.addr))
    (member (codes "column") (column_data text at) (member (codes "line") (line_data text at)
    (member (codes "repetition") (number (unsigned access.rep)) (member (codes "site") (number (unsigned access.site))
    (member (codes "size") (number (unsigned access.size)) (member (codes "task") (number (unsigned access.task))
    (member (codes "text") (statement_data text at) (member (codes "variable") (text_data name) no_members))))))))))

-- where an access begins in a text, if that is known
abbrev pub place_in : (text : List ℕ) → (places : List (List ℕ)) → Access → Option ℕ
place_in text places access = place_of text places (record { task = access.task; site = access.site })

-- the number of the variable that it touches
abbrev pub variable_in : List VariablePlace → List Variable → Access → ℕ
variable_in places variables access = variable_of places variables (record { addr = access.addr; size = access.size })

-- the access that armed
abbrev pub setter_of : AccessMap → Option Report → Option Access
setter_of sites None = None
setter_of sites (Some (Two setter finder seen)) = found.get sites setter
setter_of sites (Some (Unknown setter old new)) = found.get sites setter

-- the access that took, if there is one
abbrev pub finder_of : AccessMap → Option Report → Option Access
finder_of sites None = None
finder_of sites (Some (Two setter finder seen)) = found.get sites finder
finder_of sites (Some (Unknown setter old new)) = None

-- the change of the bytes, where one was seen
abbrev pub change_of : Option Report → Option ValueChange
change_of None = None
change_of (Some (Two setter finder seen)) = seen
change_of (Some (Unknown setter old new)) = Some (record { old = old; new = new })

-- what the bytes were before, and behind
abbrev pub old_data : Option ValueChange → Data
old_data change = number_data (option_map (λ (change : ValueChange). change.old) change)

abbrev pub new_data : Option ValueChange → Data
new_data change = number_data (option_map (λ (change : ValueChange). change.new) change)

-- a report of these two accesses that was seen in so many schedules
unfoldable pub seen_data : (setter finder : Data) → Option ValueChange → (counted : Bool) → Times → Data
seen_data setter finder change counted seen = object
    (member (codes "count") (count_data counted seen.0) (member (codes "finder") finder
    (member (codes "new") (new_data change) (member (codes "old") (old_data change)
    (member (codes "schedule") (schedule_data seen.1) (member (codes "setter") setter no_members))))))

-- the first of the reports that has a text
abbrev pub report_with : AccessMap → List Report → (text : List ℕ) → Option Report
report_with sites reports text = find (λ report. is_text text (report_text sites report)) reports

module _ (places : List VariablePlace) (variables : List Variable) (text : List ℕ) (spots : List (List ℕ)) where
  -- an access: its kind, its bytes, where it stands in the text, and its variable
  unfoldable pub access_data : Access → Data
  access_data access =
      told_data text (place_in text spots access) (name_of variables (variable_in places variables access)) access

  -- the same, if it is there
  abbrev pub side_data : Option Access → Data
  side_data None = null
  side_data (Some access) = access_data access

  -- a report that was seen in so many schedules
  unfoldable pub report_data : AccessMap → Option Report → (counted : Bool) → Times → Data
  report_data sites report counted seen =
      seen_data (side_data (setter_of sites report)) (side_data (finder_of sites report)) (change_of report) counted seen

  -- a text of a report: the first of the known ones that has it tells of its accesses
  abbrev pub sighting_data : AccessMap → (known : List Report) → (counted : Bool) → Sighting → Data
  sighting_data sites known counted sighting = report_data sites (report_with sites known sighting.0) counted sighting.1
