-- By what the task's machine says.
use Rattle.std.proofs.Common.{IfSome, vec_capacity}
use Rattle.litmus_step.proofs.NextLemmas.{goes_on, makes_next}
use Rattle.litmus_step.proofs.TurnLemmas.{machine_at, reaches}
use Rattle.litmus_step.proofs.world.World.next.Goals as goal
use Rattle.litmus_step.specs.Leads.{MakesNextIn}

pub returns-clause-makes : goal.returns-clause-makes
returns-clause-makes c =
    makes_next c.args.self.now c.args.task c.index.result.now c.next.result
    (machine_at c.args.self.now c.args.task c.index.result.now c.requires c.index.ensures) c.next.ensures.says c.next.ensures.only
    c.next.ensures.within

pub returns-clause-goes : goal.returns-clause-goes
returns-clause-goes c = λ run records leads.
    let makes : IfSome c.next.result (MakesNextIn c.args.self.now.tasks.items c.args.task) =
    makes_next c.args.self.now c.args.task c.index.result.now c.next.result
    (machine_at c.args.self.now c.args.task c.index.result.now c.requires c.index.ensures) c.next.ensures.says c.next.ensures.only
    c.next.ensures.within in
    goes_on (λ run records world task step leads next. c.law_steps_lead_on.ensures.goes run records world.board world.tasks.items world.steps
    world.logs.items world.reports.items (vec_capacity world.reports) task step leads next)
    run records c.args.self.now c.args.task c.next.result leads makes

pub returns-clause-none : goal.returns-clause-none
returns-clause-none c = λ run records leads.
    let stands = machine_at c.args.self.now c.args.task c.index.result.now c.requires c.index.ensures in
    let reach = reaches run records c.args.self.now c.args.task c.index.result.now leads stands in
    c.next.ensures.over _ _ _ _ reach.leads reach.written reach.scopes reach.rises
