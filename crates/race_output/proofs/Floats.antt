-- What is written as JSON has no float.
use Rattle.std.proofs.Common.{◌≡◌, ℕ, List, None, Option, Some, false, refl}
use Rattle.executions.specs.execution.Run.{Run}
use Rattle.litmus_syntax.specs.declared.program.Variable.{Variable}
use Rattle.prepared_program.specs.declared.program_sites.settings.Settings.{Settings}
use Rattle.prepared_program.specs.declared.step_schedule.schedule.Entry.{Entry}
use Rattle.output_pieces.proofs.Floats.{column_none, line_none, none_of, statement_none}
use Rattle.output_pieces.specs.Values.{settings_data, text_data}
use Rattle.race_output.specs.Json.{file_data, pair_data, schedule_if_data}
use Rattle.race_output.specs.Json.{site_data, sites_data, states_data, told_data, whole_data, why_data}
use Rattle.race_output.specs.Reasons.{reasons_of}
use Rattle.race_output.specs.declared.sites.SiteTold.{SiteTold}
use Rattle.race_verdicts.specs.declared.find.RacesFound.{RacesFound}
use Rattle.races.specs.declared.verdict.PairFound.{PairFound}
use Rattle.races.specs.declared.verdict.Verdict.{Verdict}
use Rattle.serde_json.specs.Written.{has_float}

schedule_none : (schedule : Option (List Entry)) → has_float (schedule_if_data schedule) ≡ false
schedule_none None = refl
schedule_none (Some entries) = refl

site_none : (text : List ℕ) (site : SiteTold) → has_float (site_data text site) ≡ false
unfolding site_data
site_none text site = simp (column_none, line_none, statement_none)

text_none : (text : List ℕ) → has_float (text_data text) ≡ false
text_none text = refl

sites_none : (text : List ℕ) (first second : SiteTold) → has_float (sites_data text first second) ≡ false
unfolding sites_data
sites_none text first second = simp site_none

why_none : (first second : SiteTold) (verdict : Verdict) → has_float (why_data first second verdict) ≡ false
unfolding why_data
why_none first second verdict = none_of text_data (reasons_of first second verdict) text_none

told_none : (variables : List Variable) (text : List ℕ) (first second : SiteTold) (verdict : Verdict) (schedule : Option (List Entry))
    → has_float (told_data variables text first second verdict schedule) ≡ false
unfolding told_data
told_none variables text first second verdict schedule = simp (schedule_none, sites_none, why_none)

pair_none : (run : Run) (text : List ℕ) (places : List (List ℕ)) (one : PairFound) → has_float (pair_data run text places one) ≡ false
unfolding pair_data
pair_none run text places one = told_none _ _ _ _ _ _

pub file_none : (name : List ℕ) (run : Run) (text : List ℕ) (places : List (List ℕ)) (settings : Settings) (found : RacesFound)
    → has_float (file_data name run text places settings found) ≡ false
unfolding file_data whole_data settings_data states_data
file_none name run text places settings found = rw (none_of (pair_data run text places) found.pairs.items (pair_none run text places)) refl
