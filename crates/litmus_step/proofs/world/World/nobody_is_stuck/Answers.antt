-- What is asked of a machine is so whatever records reach it.
use Rattle.std.proofs.Common.{◌≡◌, ◌∙◌, ◌<◌, arith, false, inl, inr, refl, subst, sym, true}
use Rattle.std.proofs.lemmas.Bool.Decides.{eqb_tells}
use Rattle.std.proofs.lemmas.Option.{slice_get_within}
use Rattle.litmus_step.proofs.TurnLemmas.{machine_at, reaches, same_machine}
use Rattle.litmus_step.proofs.world.World.nobody_is_stuck.Goals as goal
use Rattle.litmus_step.specs.Steps.{IsFree, IsMachine, tasks_in}

pub returns-then-stuck-clause-stuck : goal.returns-then-stuck-clause-stuck
returns-then-stuck-clause-stuck c =
    let below : c.loop-task.task < tasks_in c.args.self.now = omega (arith, c.loop-task-test.true, c.len-task-end.ensures) in
    let stands = machine_at c.args.self.now c.loop-task.task c.index.result.now below c.index.ensures in (
      c.loop-task.task,
      refl,
      below,
      λ run records leads.
          let reach = reaches run records c.args.self.now c.loop-task.task c.index.result.now leads stands in
          (c.stuck.ensures.records _ _ _ _ reach.leads reach.written reach.scopes reach.rises).0 c.if-stuck.true,
    )

pub loop-task-preserved : goal.loop-task-preserved
loop-task-preserved c = λ task machine within stands.
    let below : c.loop-task.task < tasks_in c.args.self.now = omega (arith, c.loop-task-test.true, c.len-task-end.ensures) in
    let free : IsFree c.index.result.now = λ s registers body records reach stuck.
    let is = (c.stuck.ensures.records s registers body records reach.leads reach.written reach.scopes reach.rises).1 stuck in
    let no : true ≡ false = sym is ∙ c.if-stuck.false in cc in
    elim (eqb_tells c.loop-task.task task) [
      | inl same ↦ subst IsFree (same_machine c.args.self.now c.loop-task.task c.index.result.now machine below c.index.ensures
          (subst (λ t. IsMachine c.args.self.now t machine) (sym same.1) stands)) free
      | inr apart ↦
          let other = apart.1 in
          c.loop-task.invariant task machine (omega (arith, within, other)) stands
    ]

pub returns-clause-free : goal.returns-clause-free
returns-clause-free c = λ task machine stands.
    let there = slice_get_within c.args.self.now.tasks.items task machine stands in
    let len = c.args.self.now.tasks.ok.0 in
    c.loop-task.invariant task machine (omega (arith, there, len, c.loop-task-test.false, c.len-task-end.ensures)) stands
