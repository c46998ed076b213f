-- They are those of where the task stands.
use Rattle.std.proofs.Common.{◌∙◌, ◌++◌, length}
use Rattle.task_run.proofs.StageLemmas.{part_registers}
use Rattle.task_run.specs.Agrees.{in_part}
use Rattle.task_run.proofs.run.TaskRun.registers.Goals as goal

pub returns : goal.returns
returns c = λ s registers body records leads later.
    c.registers.ensures (length s.text.variables) (in_part leads.part (leads.now (leads.mine ++ later))) (leads.agrees (leads.mine ++ later)).counts.keeps
    ∙ part_registers leads.part (leads.now (leads.mine ++ later))
