-- By the records that lead to the task's machine.
use Rattle.std.proofs.Common.{◌∙◌}
use Rattle.litmus_step.proofs.TurnLemmas.{machine_at}
use Rattle.litmus_step.proofs.world.World.registers.Goals as goal

pub returns-clause-list : goal.returns-clause-list
returns-clause-list c = λ run records leads.
    let stands = machine_at c.args.self.now c.args.task c.index.result.now c.requires c.index.ensures in
    let led = leads.tasks.each c.args.task c.index.result.now stands in
    c.registers.ensures _ _ _ _ led (leads.list.tasks c.args.task).more
    ∙ c.law_machines_stand_where_the_list_does.ensures.registers run records leads.list c.args.task c.index.result.now leads.can.limits led

pub returns-clause-meant : goal.returns-clause-meant
returns-clause-meant c = λ run records leads ended.
    c.law_machines_stand_where_the_list_does.ensures.meant run records leads.list c.args.task ended
