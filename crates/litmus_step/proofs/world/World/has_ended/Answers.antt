-- By what is told of the task's machine.
use Rattle.litmus_step.proofs.TurnLemmas.{machine_at, reaches}
use Rattle.litmus_step.proofs.world.World.has_ended.Goals as goal

pub returns : goal.returns
returns c = λ run records leads.
    let stands = machine_at c.args.self.now c.args.task c.index.result.now c.requires c.index.ensures in
    let reach = reaches run records c.args.self.now c.args.task c.index.result.now leads stands in
    c.is_over.ensures _ _ _ _ reach.leads reach.scopes reach.rises
