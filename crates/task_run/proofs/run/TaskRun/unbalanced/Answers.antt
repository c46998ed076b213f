-- It is that of where the task stands.
use Rattle.std.proofs.Common.{◌∙◌, ◌++◌, ap, length}
use Rattle.task_plan.specs.Counts.{up_to_last}
use Rattle.task_run.proofs.StageLemmas.{part_unbalanced}
use Rattle.task_run.specs.Agrees.{in_part}
use Rattle.task_run.proofs.run.TaskRun.unbalanced.Goals as goal

pub returns : goal.returns
returns c = λ s registers body records leads later.
    c.unbalanced.ensures (length s.text.variables) (in_part leads.part (leads.now (leads.mine ++ later))) (leads.agrees (leads.mine ++ later)).counts.keeps
    ∙ ap up_to_last (part_unbalanced leads.part (leads.now (leads.mine ++ later)))
