-- The lines of the pair are those of its sites.
use Rattle.std.proofs.Common.{◌≡◌, ◌∙◌, ℕ, List}
use Rattle.std.specs.Prelude.{option_map}
use Rattle.executions.specs.execution.Run.{Run}
use Rattle.litmus_syntax.specs.declared.program.Variable.{Variable}
use Rattle.race_output.specs.Blocks.{before_of, lines_of, pair_text}
use Rattle.race_output.specs.Sites.{told_of}
use Rattle.race_output.specs.declared.sites.SiteTold.{SiteTold}
use Rattle.races.specs.declared.verdict.PairFound.{PairFound}
use Rattle.race_output.proofs.blocks.pair_text.Goals as goal

of_sites : (run : Run) (text : List ℕ) (places : List (List ℕ)) (one : PairFound) (variables : List Variable) (first second : SiteTold)
    (before : List ℕ) → variables ≡ run.program.variables → first ≡ told_of run text places one.pair.first
    → second ≡ told_of run text places one.pair.second → before ≡ before_of variables first second one.verdict
    → lines_of before text first second one.verdict (option_map (λ entries. entries.items) one.schedule) ≡ pair_text run text places one
unfolding pair_text
of_sites run text places one variables first second before v f s b = cc

pub returns : goal.returns
returns c = λ run of.
    c.in_ok-lines.ensures
    ∙ of_sites run _ _ _ _ _ _ _ of.variables_are (c.told_of-first.ensures.told run of) (c.told_of-second.ensures.told run of)
    (c.deref.ensures.value ∙ c.in_ok-before.ensures)
