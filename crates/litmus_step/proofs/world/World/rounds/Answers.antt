-- One round more is made.
use Rattle.std.proofs.Common.{◌≡◌, ◌≤◌, ◌∙◌, ◌+◌, suc, Ok, ap, arith, refl, subst}
use Rattle.std.proofs.Props.{props}
use mathlib.Core.Logic.{∥∥₁_elim}
use Rattle.std.proofs.lemmas.Result.{err_from_is_err_and}
use Rattle.std.specs.List.{range_with_len}
use Rattle.prepared_program.specs.step_schedule.Order.{in_rounds}
use Rattle.litmus_step.proofs.FurtherLemmas.{further_both, further_none}
use Rattle.litmus_step.proofs.RoundLemmas.{asked_along, stops_after}
use Rattle.litmus_step.proofs.TurnLemmas.{asked_both, asked_nothing}
use Rattle.litmus_step.proofs.world.World.rounds.Goals as goal
use Rattle.litmus_step.specs.Steps.{tasks_in}
use Rattle.litmus_step.specs.Turns.{Asked, StopsAt}

pub loop-round-init : goal.loop-round-init
loop-round-init c = record {
  asked = asked_nothing c.args.self.now;
  nobody = c.requires;
  further = further_none c.args.self.now;
  tasks = refl;
  sites = refl;
  room = refl;
}

pub returns-in_err-round-clause-stops : goal.returns-in_err-round-clause-stops
returns-in_err-round-clause-stops c =
    let p = err_from_is_err_and c.from_residual.result c.from_residual.ensures.1 in
    let error = c.in_err-round.field-0.0 in
    let tasks = tasks_in c.args.self.now in
    let stops = subst (λ n. StopsAt c.loop-round.self (range_with_len 0 n) c.round.new.self error) c.loop-round.invariant.tasks
    c.in_err-round.ensures.stops in
    rw (p.1, p.2) (
      suc c.loop-round._round,
      stops_after c.args.self.now c.loop-round.self c.round.new.self (in_rounds tasks c.loop-round._round)
          (range_with_len 0 tasks) error c.loop-round.invariant.asked stops,
    )

pub returns-then-not-branch-clause-asked : goal.returns-then-not-branch-clause-asked
returns-then-not-branch-clause-asked c =
    let tasks = tasks_in c.args.self.now in (
      suc c.loop-round._round,
      asked_both c.args.self.now c.loop-round.self c.round.new.self (in_rounds tasks c.loop-round._round) (range_with_len 0 tasks)
          c.loop-round.invariant.asked
          (subst (λ n. Asked c.loop-round.self (range_with_len 0 n) c.round.new.self)
          c.loop-round.invariant.tasks c.in_ok-round.ensures.asked.0),
    )

pub loop-round-preserved : goal.loop-round-preserved
loop-round-preserved c =
    let tasks = tasks_in c.args.self.now in
    let more : suc c.loop-round._round ≡ c.loop-round._round + 1 = omega arith in
    record {
      asked = asked_along c.args.self.now c.round.new.self (in_rounds tasks (suc c.loop-round._round))
          (in_rounds tasks (c.loop-round._round + 1))
          (ap (in_rounds tasks) more)
          (asked_both c.args.self.now c.loop-round.self c.round.new.self (in_rounds tasks c.loop-round._round) (range_with_len 0 tasks)
          c.loop-round.invariant.asked
          (subst (λ n. Asked c.loop-round.self (range_with_len 0 n) c.round.new.self)
          c.loop-round.invariant.tasks c.in_ok-round.ensures.asked.0));
      nobody = c.in_ok-round.ensures.asked.1;
      further = further_both c.args.self.now c.loop-round.self c.round.new.self c.loop-round._round 1 c.loop-round.invariant.further
          (c.in_ok-round.ensures.further (ap Ok c.if-not-branch.false));
      tasks = c.round.ensures.tasks ∙ c.loop-round.invariant.tasks;
      sites = c.round.ensures.sites ∙ c.loop-round.invariant.sites;
      room = c.round.ensures.room ∙ c.loop-round.invariant.room;
    }

-- so many rounds would be more steps than there are
pub returns-clause-over : goal.returns-clause-over
returns-clause-over c =
    let none : 1 ≤ 0 = ∥∥₁_elim c.args.self.now.led (hlevel props) (λ is.
    let far = c.loop-round.invariant.further is.run is.records is.leads in
    let few = c.law_few_steps_are_made.ensures.all is.run far.0 far.1.can.limits far.1.can.turns far.1.list in
    let many = far.2 in
    omega (arith, few, many, c.loop-round-test.false, c.loop-round.auto._round-end)) in
    absurd (omega (arith, none))
