-- The value of the pair is that of its sites.
use Rattle.std.proofs.Common.{◌≡◌, ◌∙◌, ℕ, List}
use Rattle.std.specs.Prelude.{option_map}
use Rattle.executions.specs.execution.Run.{Run}
use Rattle.litmus_syntax.specs.declared.program.Variable.{Variable}
use Rattle.race_output.specs.Json.{pair_data, told_data}
use Rattle.race_output.specs.Sites.{told_of}
use Rattle.race_output.specs.declared.sites.SiteTold.{SiteTold}
use Rattle.races.specs.declared.verdict.PairFound.{PairFound}
use Rattle.race_output.proofs.json.pair_value.Goals as goal

of_sites : (run : Run) (text : List ℕ) (places : List (List ℕ)) (one : PairFound) (variables : List Variable) (first second : SiteTold)
    → variables ≡ run.program.variables → first ≡ told_of run text places one.pair.first
    → second ≡ told_of run text places one.pair.second
    → told_data variables text first second one.verdict (option_map (λ entries. entries.items) one.schedule) ≡ pair_data run text places one
unfolding pair_data
of_sites run text places one variables first second v f s = cc

pub returns : goal.returns
returns c = λ run of.
    c.in_ok-value.ensures
    ∙ of_sites run _ _ _ _ _ _ of.variables_are (c.told_of-first.ensures.told run of) (c.told_of-second.ensures.told run of)
