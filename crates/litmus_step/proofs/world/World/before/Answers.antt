-- By the step that the task's machine makes next, and the access that begins with it.
use Rattle.std.proofs.Common.{inl, inr, refl, subst, sym}
use Rattle.litmus_step.proofs.PointLemmas.{TellsBefore, next_told}
use Rattle.litmus_step.proofs.TurnLemmas.{machine_at, reaches, same_machine}
use Rattle.litmus_step.proofs.world.World.before.Goals as goal
use Rattle.task_run.specs.Says.{Says}
use Rattle.task_run.specs.declared.run.TaskRun.{TaskRun}

pub before-requires : goal.before-requires
before-requires c =
    let machine = c.index.result.now in
    let stands = machine_at c.args.self.now c.args.task machine c.requires c.index.ensures in
    let same = same_machine c.args.self.now c.args.task c.index-in-Some.result.now machine c.requires c.index-in-Some.ensures stands in
    subst (λ (m : TaskRun). Says m c.in-Some.step) (sym same) c.in-Some.ensures.says

pub returns-in-Some : goal.returns-in-Some
returns-in-Some c = λ run records leads.
    let machine = c.index.result.now in
    let stands = machine_at c.args.self.now c.args.task machine c.requires c.index.ensures in
    let reach = reaches run records c.args.self.now c.args.task machine leads stands in
    let same = same_machine c.args.self.now c.args.task c.index-in-Some.result.now machine c.requires c.index-in-Some.ensures stands in
    let tells = subst (λ (m : TaskRun). TellsBefore m c.in-Some.step c.before-in-Some.result) same c.before-in-Some.ensures in
    inr (
      (λ over. let none = (c.in-Some.ensures.over _ _ _ _ reach.leads reach.written reach.scopes reach.rises).1 over in cc),
      next_told c.law_a_machine_says_what_begins.ensures run records leads.list c.args.task machine c.in-Some.step c.before-in-Some.result
          reach.leads c.in-Some.ensures.says (c.in-Some.ensures.only _ _ _ _ reach.leads)
          (leads.points c.args.task machine stands) tells,
    )

pub returns-in-None : goal.returns-in-None
returns-in-None c = λ run records leads.
    let machine = c.index.result.now in
    let stands = machine_at c.args.self.now c.args.task machine c.requires c.index.ensures in
    let reach = reaches run records c.args.self.now c.args.task machine leads stands in
    inl ((c.in-None.ensures.over _ _ _ _ reach.leads reach.written reach.scopes reach.rises).0 refl, refl)
