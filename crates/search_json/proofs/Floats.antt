-- What is written as JSON has no float.
use Rattle.std.proofs.Common.{◌≡◌, ℕ, Bool, List, None, Option, Some, false, refl, true}
use Rattle.access_types.specs.Access.{Access}
use Rattle.access_types.specs.Sites.{AccessMap}
use Rattle.access_types.specs.declared.report.Report.{Report}
use Rattle.access_types.specs.declared.report.ValueChange.{ValueChange}
use Rattle.litmus_semantics.specs.Layout.{VariablePlace}
use Rattle.litmus_syntax.specs.declared.program.Variable.{Variable}
use Rattle.prepared_program.specs.declared.program_sites.settings.Settings.{Settings}
use Rattle.output_pieces.proofs.Floats.{column_none, line_none, none_of, settings_none, statement_none}
use Rattle.search_json.specs.Json.{HasNoFloat, deadlock_data, file_data, observation_data, refused_data, searched_data}
use Rattle.search_json.specs.Json.{state_data, stuck_data, whole_data}
use Rattle.search_json.specs.Reports.{access_data, count_data, number_data, report_data, seen_data}
use Rattle.search_json.specs.Reports.{side_data, sighting_data, told_data}
use Rattle.search_json.specs.declared.extent.Extent.{Extent}
use Rattle.search_text.specs.Times.{Sighting, Times}
use Rattle.search_text.specs.declared.found.SearchFindings.{SearchFindings}
use Rattle.serde_json.specs.Data.{Data}
use Rattle.serde_json.specs.Written.{has_float}

number_none : (n : Option ℕ) → has_float (number_data n) ≡ false
number_none None = refl
number_none (Some n) = refl

count_none : (counted : Bool) (times : ℕ) → has_float (count_data counted times) ≡ false
count_none true times = refl
count_none false times = refl

told_none : (text : List ℕ) (at : Option ℕ) (name : List ℕ) (access : Access) → has_float (told_data text at name access) ≡ false
unfolding told_data
told_none text at name access = simp (column_none, line_none, statement_none)

seen_none : (setter finder : Data) (change : Option ValueChange) (counted : Bool) (seen : Times) → has_float setter ≡ false
    → has_float finder ≡ false → has_float (seen_data setter finder change counted seen) ≡ false
unfolding seen_data
seen_none setter finder change counted seen s f = rw (count_none, f, number_none, number_none, s) refl

module _ (places : List VariablePlace) (variables : List Variable) (text : List ℕ) (spots : List (List ℕ)) where
  side_none : (access : Option Access) → has_float (side_data places variables text spots access) ≡ false
  unfolding access_data
  side_none None = refl
  side_none (Some access) = told_none _ _ _ _

  report_none : (sites : AccessMap) (report : Option Report) (counted : Bool) (seen : Times)
      → has_float (report_data places variables text spots sites report counted seen) ≡ false
  unfolding report_data
  report_none sites report counted seen = seen_none _ _ _ _ _ (side_none _) (side_none _)

  sighting_none : (sites : AccessMap) (known : List Report) (counted : Bool) (sighting : Sighting)
      → has_float (sighting_data places variables text spots sites known counted sighting) ≡ false
  sighting_none sites known counted sighting = report_none sites _ counted sighting.1

observation_none : (name : List ℕ) (held failed : ℕ) → has_float (observation_data name held failed) ≡ false
unfolding observation_data
observation_none name held failed = refl

searched_none : (extent : Extent) (searched : ℕ) → has_float (searched_data extent searched) ≡ false
unfolding searched_data
searched_none extent searched = simp (number_none, count_none)

state_none : (sighting : Sighting) → has_float (state_data sighting.0 sighting.1.0) ≡ false
unfolding state_data
state_none sighting = refl

stuck_none : (counted : Bool) (stuck : Option Times) → has_float (stuck_data counted stuck) ≡ false
unfolding deadlock_data
stuck_none counted None = refl
stuck_none counted (Some seen) = simp count_none

whole_none : (name : List ℕ) (status : ℕ) (stopped : Bool) (observation reports searched settings states stuck : Data)
    → has_float observation ≡ false → has_float reports ≡ false → has_float searched ≡ false → has_float settings ≡ false
    → has_float states ≡ false → has_float stuck ≡ false
    → has_float (whole_data name status stopped observation reports searched settings states stuck) ≡ false
unfolding whole_data
whole_none name status stopped observation reports searched settings states stuck o r s e t k = rw (o, r, s, e, t, k) refl

pub file_none : (name test : List ℕ) (places : List VariablePlace) (variables : List Variable) (text : List ℕ) (spots : List (List ℕ))
    (sites : AccessMap) (settings : Settings) (reported ended : SearchFindings) (extent : Extent)
    → HasNoFloat (file_data name test places variables text spots sites settings reported ended extent)
unfolding file_data
file_none name test places variables text spots sites settings reported ended extent =
    whole_none _ _ _ _ _ _ _ _ _ (observation_none _ _ _)
    (none_of _ reported.reports (sighting_none places variables text spots sites reported.known.items _))
    (searched_none extent reported.searched) (settings_none settings)
    (none_of _ ended.states state_none) (stuck_none _ ended.stuck)

pub refused_none : (name : List ℕ) (status : ℕ) (why : List ℕ) → HasNoFloat (refused_data name status why)
unfolding refused_data
refused_none name status why = refl
