-- One task's parts more follow.
use Rattle.std.proofs.Common.{◌++◌, ◌∙◌, List, ap, arith, map}
use Rattle.std.specs.Vec.Iter.{into_iter_items}
use Rattle.runner.proofs.PartLemmas.{no_part, part_more}
use Rattle.runner.proofs.together.apart.Goals as goal
use Rattle.runner.specs.declared.seated.TaskResult.{TaskResult}

pub loop-one-init : goal.loop-one-init
loop-one-init c = record {
  seats = ap (λ (done : List _). done ++ map (λ (one : TaskResult). one.seat) (into_iter_items c.into_iter-one-iterator.result)) c.in_ok-seats.ensures.items;
  logs = ap (λ (done : List _). done ++ map (λ (one : TaskResult). one.log) (into_iter_items c.into_iter-one-iterator.result)) c.in_ok-logs.ensures.items;
  registers = ap (λ (done : List _). done ++ map (λ (one : TaskResult). one.registers) (into_iter_items c.into_iter-one-iterator.result))
      c.in_ok-registers.ensures.items;
  room_for_seats = omega (
    arith,
    c.in_ok-seats.ensures.len,
    c.in_ok-seats.ensures.capacity,
    c.len.ensures,
    c.into_iter-one-iterator.ensures.into_iter_gives.1,
  );
  room_for_logs = omega (
    arith,
    c.in_ok-logs.ensures.len,
    c.in_ok-logs.ensures.capacity,
    c.len-2.ensures,
    c.into_iter-one-iterator.ensures.into_iter_gives.1,
  );
  room_for_registers = omega (
    arith,
    c.in_ok-registers.ensures.len,
    c.in_ok-registers.ensures.capacity,
    c.len-3.ensures,
    c.into_iter-one-iterator.ensures.into_iter_gives.1,
  );
}

pub loop-one-preserved : goal.loop-one-preserved
loop-one-preserved c =
    let was = c.loop-one.invariant in
    let steps = c.in-Some.ensures.steps in
    let all = into_iter_items c.into_iter-one-iterator.result in
    let rest = into_iter_items c.loop-one.one-iterator in
    let after = into_iter_items c.next.new.self in
    record {
      seats = part_more (λ (one : TaskResult). one.seat) c.in-Some.one all rest after c.loop-one.seats.items c.push_reserved.new.self.items was.seats steps.0
          c.push_reserved.ensures.items;
      logs = part_more (λ (one : TaskResult). one.log) c.in-Some.one all rest after c.loop-one.logs.items c.push_reserved-in-loop-one.new.self.items was.logs
          steps.0 c.push_reserved-in-loop-one.ensures.items;
      registers = part_more (λ (one : TaskResult). one.registers) c.in-Some.one all rest after c.loop-one.registers.items
          c.push_reserved-in-loop-one-2.new.self.items was.registers steps.0 c.push_reserved-in-loop-one-2.ensures.items;
      room_for_seats = omega (arith, was.room_for_seats, steps.1, c.push_reserved.ensures.len, c.push_reserved.ensures.capacity);
      room_for_logs = omega (arith, was.room_for_logs, steps.1, c.push_reserved-in-loop-one.ensures.len, c.push_reserved-in-loop-one.ensures.capacity);
      room_for_registers = omega (
        arith,
        was.room_for_registers,
        steps.1,
        c.push_reserved-in-loop-one-2.ensures.len,
        c.push_reserved-in-loop-one-2.ensures.capacity,
      );
    }

pub returns-clause-seats : goal.returns-clause-seats
returns-clause-seats c =
    no_part (λ (one : TaskResult). one.seat) (into_iter_items c.into_iter-one-iterator.result) (into_iter_items c.loop-one.one-iterator) c.loop-one.seats.items
    c.loop-one.invariant.seats (omega (arith, c.in-None.ensures.steps.0, c.loop-one.one-iterator.rest.ok.0))
    ∙ ap (map (λ (one : TaskResult). one.seat)) c.into_iter-one-iterator.ensures.into_iter_gives.0

pub returns-clause-logs : goal.returns-clause-logs
returns-clause-logs c =
    no_part (λ (one : TaskResult). one.log) (into_iter_items c.into_iter-one-iterator.result) (into_iter_items c.loop-one.one-iterator) c.loop-one.logs.items
    c.loop-one.invariant.logs (omega (arith, c.in-None.ensures.steps.0, c.loop-one.one-iterator.rest.ok.0))
    ∙ ap (map (λ (one : TaskResult). one.log)) c.into_iter-one-iterator.ensures.into_iter_gives.0

pub returns-clause-registers : goal.returns-clause-registers
returns-clause-registers c =
    no_part (λ (one : TaskResult). one.registers) (into_iter_items c.into_iter-one-iterator.result) (into_iter_items c.loop-one.one-iterator)
    c.loop-one.registers.items c.loop-one.invariant.registers (omega (arith, c.in-None.ensures.steps.0, c.loop-one.one-iterator.rest.ok.0))
    ∙ ap (map (λ (one : TaskResult). one.registers)) c.into_iter-one-iterator.ensures.into_iter_gives.0
