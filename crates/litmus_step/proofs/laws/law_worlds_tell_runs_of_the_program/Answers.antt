-- By the law on executions.
use Rattle.litmus_step.proofs.laws.law_worlds_tell_runs_of_the_program.Goals as goal

pub returns : goal.returns
returns c = λ run records world leads. c.law_executions_tell_runs_of_the_program.ensures run records leads.list
