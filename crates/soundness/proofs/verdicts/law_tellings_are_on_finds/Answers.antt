-- A telling falls with the last record of its find, before which its task has in hand what it took.
use Rattle.soundness.proofs.Finds.{all_on_finds}
use Rattle.soundness.proofs.verdicts.law_tellings_are_on_finds.Goals as goal

pub returns : goal.returns
returns c = λ run records list. all_on_finds run records list (c.law_roles_of_executions.ensures.heard run records list)
