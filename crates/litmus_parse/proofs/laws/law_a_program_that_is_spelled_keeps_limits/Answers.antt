-- Rule by rule.
use Rattle.litmus_parse.proofs.GrammarKeeps.{grammar_keeps}
use Rattle.litmus_parse.proofs.laws.law_a_program_that_is_spelled_keeps_limits.Goals as goal

pub returns : goal.returns
returns c = λ symbols program spelled few. grammar_keeps symbols program spelled few
