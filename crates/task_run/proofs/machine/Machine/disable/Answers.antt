-- One mark more each time round.
use Rattle.std.proofs.Common.{◌≡◌, ◌∙◌, ◌+◌, ◌-◌, ◌^◌, ◌≤◌, ap, arith, subst, sym}
use Rattle.setup_access.specs.Shown.{context_of}
use Rattle.access_types.specs.declared.history.Happening.TheVariants as happenings
use Rattle.access_types.specs.declared.history.Mark.TheVariants as marks
use Rattle.task_run.proofs.StandsLemmas.{stands_more, stands_still}
use Rattle.task_run.specs.Part.{disabled}
use Rattle.task_run.specs.Room.{room_of}
use Rattle.task_run.specs.Stands.{Stands}
use Rattle.task_run.proofs.machine.Machine.disable.Goals as goal

pub loop-init : goal.loop-init
loop-init c = record {
  stands = λ s before later stands. stands_still s before later (happenings.Mark marks.Disable) _ (subst (λ m. Stands s before m) (sym c.disable_room.ensures.unchanged) stands);
  walk = ap (λ m. m.walk) c.disable_room.ensures.unchanged;
  lists = ap room_of c.disable_room.ensures.unchanged;
  room = λ some. subst (λ m. (context_of m.checker).disable_count + (c.args.count - 0) ≤ 2 ^ 32) (sym c.disable_room.ensures.unchanged)
      (omega (arith, some, c.disable_room.ensures.value, c.if-count-disable_room.false));
}

pub loop-preserved : goal.loop-preserved
loop-preserved c = record {
  stands = λ s before later stands. stands_more s before later c.loop.counter marks.Disable c.loop.self c.turns_off.new.self c.turns_off.ensures.stands
      (c.loop.invariant.stands s before later stands);
  walk = c.turns_off.ensures.walk ∙ c.loop.invariant.walk;
  lists = c.turns_off.ensures.room ∙ c.loop.invariant.lists;
  room = λ some. let so_far = c.loop.invariant.room c.loop-test.true in omega (arith, c.turns_off.ensures.count, so_far, some);
}

pub returns-clause-stands : goal.returns-clause-stands
returns-clause-stands c = λ s before later stands.
    let all : c.loop.counter ≡ c.args.count = omega (arith, c.loop.auto.counter-end) in
    subst (λ n. Stands s (disabled n before later) c.loop.self) all (c.loop.invariant.stands s before later stands)

pub returns-then-count-disable_room-clause-many : goal.returns-then-count-disable_room-clause-many
returns-then-count-disable_room-clause-many c = omega (arith, c.disable_room.ensures.value, c.if-count-disable_room.true)
