-- By what is told of the task's machine.
use Rattle.std.proofs.Common.{◌<◌, ap, arith, inl, inr, is_some, refl}
use Rattle.litmus_step.proofs.TurnLemmas.{machine_at, reaches, some_machine, tells_ended, tells_stuck}
use Rattle.litmus_step.proofs.world.World.step.Goals as goal
use Rattle.litmus_step.specs.Steps.{tasks_in}
use Rattle.setup_access.specs.Parts.{made}

pub returns-in_default-clause-steps : goal.returns-in_default-clause-steps
returns-in_default-clause-steps c = λ run records leads.
    let stands = machine_at c.args.self.now c.args.task c.index.result.now c.requires c.index.ensures in
    let reach = reaches run records c.args.self.now c.args.task c.index.result.now leads stands in
    inl ((c.next.ensures.over _ _ _ _ reach.leads reach.written reach.scopes reach.rises).0 (ap is_some c.in_default.is), refl)

pub returns-in_default-clause-ended : goal.returns-in_default-clause-ended
returns-in_default-clause-ended c = λ run records leads.
    let stands = machine_at c.args.self.now c.args.task c.index.result.now c.requires c.index.ensures in
    tells_ended run records c.args.self.now c.args.task c.state.result c.index.result.now leads stands
    (c.state.ensures c.index.result.now stands)

pub returns-in_default-clause-stuck : goal.returns-in_default-clause-stuck
returns-in_default-clause-stuck c = λ run records leads.
    let stands = machine_at c.args.self.now c.args.task c.index.result.now c.requires c.index.ensures in
    tells_stuck run records c.args.self.now c.args.task c.state.result c.index.result.now leads stands
    (c.state.ensures c.index.result.now stands)

pub make-requires-clause-next : goal.make-requires-clause-next
make-requires-clause-next c = record {
  machine = c.index.result.now;
  stands = machine_at c.args.self.now c.args.task c.index.result.now c.requires c.index.ensures;
  makes = record { says = c.in-Some.ensures.says; only = c.in-Some.ensures.only; within = c.in-Some.ensures.within };
}

pub returns-clause-steps : goal.returns-clause-steps
returns-clause-steps c = λ run records leads.
    let stands = machine_at c.args.self.now c.args.task c.index.result.now c.requires c.index.ensures in
    let reach = reaches run records c.args.self.now c.args.task c.index.result.now leads stands in
    inr (
      (λ over. let none = (c.in-Some.ensures.over _ _ _ _ reach.leads reach.written reach.scopes reach.rises).1 over in cc),
      record {
        made = made c.args.task c.in-Some.step c.make.result;
        own = refl;
        leads = c.make.ensures.moves run records leads;
      },
    )

pub returns-clause-ended : goal.returns-clause-ended
returns-clause-ended c = λ run records leads.
    let below : c.args.task < tasks_in c.make.new.self = omega (arith, c.requires, c.make.ensures.tasks) in
    let stands = some_machine c.make.new.self c.args.task c.index.result.now below in
    tells_ended run records c.make.new.self c.args.task c.state-2.result _ leads stands (c.state-2.ensures _ stands)

pub returns-clause-stuck : goal.returns-clause-stuck
returns-clause-stuck c = λ run records leads.
    let below : c.args.task < tasks_in c.make.new.self = omega (arith, c.requires, c.make.ensures.tasks) in
    let stands = some_machine c.make.new.self c.args.task c.index.result.now below in
    tells_stuck run records c.make.new.self c.args.task c.state-2.result _ leads stands (c.state-2.ensures _ stands)
