-- Rule by rule.
use Rattle.litmus_parse.proofs.NamesSpelled.{names_among}
use Rattle.litmus_parse.proofs.laws.law_names_of_a_program_are_spelled.Goals as goal

pub returns : goal.returns
returns c = λ symbols program spelled. names_among symbols program spelled
