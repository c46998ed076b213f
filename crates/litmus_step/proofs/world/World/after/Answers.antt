-- By what the list notes of the task's steps.
use Rattle.std.proofs.Common.{◌≡◌, ◌∙◌, List, ap, length, reverse}
use Rattle.litmus_step.proofs.PointLemmas.{noted_so}
use Rattle.litmus_step.proofs.TurnLemmas.{machine_at}
use Rattle.litmus_step.proofs.world.World.after.Goals as goal
use Rattle.litmus_step.specs.Leads.{steps_noted}
use Rattle.litmus_step.specs.Readers.{steps_told}
use Rattle.executions.specs.execution.Run.{task_of, task_setting}
use Rattle.slot_table.specs.Records.{records_of}
use Rattle.task_run.specs.Points.{Stepped, last_was}

pub returns : goal.returns
returns c = λ run records leads.
    let stands = machine_at c.args.self.now c.args.task c.index.result.now c.requires c.index.ensures in
    let at = leads.points c.args.task c.index.result.now stands in
    let steps : steps_noted at.noted ≡ steps_told leads.list c.args.task =
    noted_so (task_setting run c.args.task) (length (task_of run c.args.task).registers) (task_of run c.args.task).body
    (reverse (records_of c.args.task records)) (leads.list.tasks c.args.task) (records_of c.args.task records) at.noted at.notes in
    c.after.ensures (steps_noted at.noted) at.made ∙ ap (λ (made : List Stepped). last_was made) steps
