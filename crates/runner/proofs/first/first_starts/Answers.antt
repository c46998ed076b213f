-- One start more is of the next task.
use Rattle.std.proofs.Common.{◌≡◌, ◌∙◌, [], ℕ, suc, List, Some, ap, arith, length, slice_get, subst, sym}
use Rattle.std.specs.Vec.Iter.{into_iter_items}
use Rattle.litmus_step.proofs.FirstLemmas.{each_push}
use Rattle.runner.proofs.StartLemmas.{seats_are, seats_of}
use Rattle.runner.proofs.first.first_starts.Goals as goal
use Rattle.runner.specs.Starts.{IsStart}
use Rattle.runner.specs.declared.first.TaskStart.{TaskStart}
use Rattle.shared_table.specs.Seats.{Sitting, new_seats}

pub loop-seat-init : goal.loop-seat-init
loop-seat-init c = record {
  made = omega (arith, c.in_ok-starts.ensures.len);
  room = omega (arith, c.in_ok-starts.ensures.capacity, c.len.ensures, c.into_iter-seat-iterator.ensures.into_iter_gives.1);
  rest = λ at seat is. subst (λ (n : ℕ). slice_get (into_iter_items c.into_iter-seat-iterator.result) n ≡ Some seat)
      (omega (arith, c.in_ok-starts.ensures.len)) is;
  each = λ opened are task start is. absurd (let none : slice_get [] task ≡ Some start = subst (λ (xs : List TaskStart). slice_get xs task ≡ Some start)
      c.in_ok-starts.ensures.items is in cc);
}

pub loop-seat-preserved : goal.loop-seat-preserved
loop-seat-preserved c =
    let was = c.loop-seat.invariant in
    let steps = c.in-Some.ensures.steps in
    let pushed = c.push_reserved.ensures in
    let done : ℕ = length c.loop-seat.starts.items in
    record {
      made = omega (arith, was.made, steps.1, pushed.len);
      room = omega (arith, was.room, pushed.capacity);
      rest = λ at seat is. subst (λ (n : ℕ). slice_get (into_iter_items c.into_iter-seat-iterator.result) n ≡ Some seat) (omega (arith, pushed.len))
          (was.rest (suc at) seat (ap (λ (xs : List Sitting). slice_get xs (suc at)) steps.0 ∙ is));
      each = λ opened are.
          let here : slice_get (new_seats opened opened.given.tasks) done ≡ Some c.in-Some.seat =
          sym (ap (λ (xs : List Sitting). slice_get xs done) are)
          ∙ (subst (λ (n : ℕ). slice_get (into_iter_items c.into_iter-seat-iterator.result) n ≡ Some c.in-Some.seat)
          (omega (arith, c.loop-seat.starts.ok.0)) (was.rest 0 c.in-Some.seat (ap (λ (xs : List Sitting). slice_get xs 0) steps.0))) in
          let seat = seats_of opened opened.given.tasks done c.in-Some.seat here in
          subst (λ (all : List TaskStart). (task : ℕ) (start : TaskStart) → slice_get all task ≡ Some start → IsStart opened task start)
          (sym pushed.items)
          (each_push (λ task start. IsStart opened task start) c.loop-seat.starts.items c.new.result (was.each opened are)
          (subst (λ (s : Sitting). IsStart s.table s.task c.new.result) seat
          (c.new.ensures (ap (λ (s : Sitting). s.records) seat))));
    }

pub returns : goal.returns
returns c = λ opened are. record {
  all =
      let made = c.loop-seat.invariant.made in
      let none = c.in-None.ensures.steps.0 in
      let count : length (into_iter_items c.into_iter-seat-iterator.result) ≡ opened.given.tasks =
      ap length (c.into_iter-seat-iterator.ensures.into_iter_gives.0 ∙ are) ∙ seats_are opened opened.given.tasks in
      omega (arith, made, none, count, c.loop-seat.starts.ok.0, c.into_iter-seat-iterator.ensures.into_iter_gives.1);
  each = c.loop-seat.invariant.each opened (c.into_iter-seat-iterator.ensures.into_iter_gives.0 ∙ are);
}
