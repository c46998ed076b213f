-- A call of the row asks that the step can be made: it follows from what the seat and the table
-- are, and from the caller's condition.
use Rattle.atomic_table.specs.declared.shared.Seat.{Seat}
use Rattle.atomic_table.specs.Seated.{TableId}
use Rattle.std.proofs.Common.{◌≡◌, ℕ, List, sym, ap, ◌∙◌, subst, arith, ◌+◌, ◌-◌, Bool}
use Rattle.slot_table.specs.StepLine.{Names}
use Rattle.slot_table.specs.declared.records.Record.{Record}
use Rattle.slot_table.specs.declared.step.Answer.{Answer}
use Rattle.slot_table.specs.declared.step.Step.{Step}
use Rattle.shared_table.specs.Given.{Given, first_words}
use Rattle.shared_table.specs.Plays.{Notes, Me}
use Rattle.shared_table.specs.Seats.{MayMake, Opened, Sitting, seat_after}
use Rattle.shared_table.specs.Touches.{MayTouch}
use Rattle.shared_table.specs.Views.{own_records, noted}
use Rattle.shared_table.specs.contracts.seat.TaskSeat as of_seat
use Rattle.shared_table.specs.declared.seat.TaskSeat.TheInside as in_seat
use Rattle.shared_table.specs.declared.view.View.{View}
use Rattle.shared_table.proofs.Keeps.{ActsAs, allows}

module _ (seat : in_seat.Inside) (sitting : Sitting) (opened : Opened)
    (seat_is : of_seat.the_view seat ≡ sitting)
    (sits : of_seat.the_invariant seat)
    (here : sitting.table ≡ opened) (step : Step) (may : MayMake sitting step) where
  abbrev one : (of_seat.the_view seat).table ≡ opened
  one = ap (λ (s : Sitting). s.table) seat_is ∙ here

  abbrev same : seat.seat.me.0.opening ≡ opened.given
  same = ap (λ (o : Opened). o.given) one

  may_here : MayMake (of_seat.the_view seat) step
  may_here = let P : Sitting → Type 0 = λ s. MayMake s step in subst P (sym seat_is) may

  pub asks : (place : ℕ) (change : ℕ → ℕ) (answer : ℕ → Answer)
      → ((given : Given) → given ≡ opened.given → Names (first_words given) step → ActsAs given step place change answer)
      → MayTouch opened seat.seat place change (λ found after. Notes step (answer found) seat.seat.me after)
  asks place change answer acts =
      let given : Given = seat.seat.me.0.opening in
      let own : List Record = own_records seat.seat.me.0.held in
      let on = acts given same may_here.names in (
        ap (λ (o : Opened). o.id) one,
        (let P : Given → Type 0 = λ g. ActsAs g step place change answer in (subst P same on).within),
        allows given seat.seat.id seat.task own step place change answer sits.2 may_here.names may_here.allowed on
            opened.given opened.id.slots seat.seat.me (sym same) sits.0,
      )

  -- so it is where the play names the step in another way
  module _ (named : Step) (is : step ≡ named) where
    pub asks_as : (from : Given → ℕ) (index place : ℕ) → place ≡ from opened.given + index → (change : ℕ → ℕ) (answer : ℕ → Answer)
        → ((given : Given) → place ≡ from given + index → Names (first_words given) step → ActsAs given step place change answer)
        → MayTouch opened seat.seat place change (λ found after. Notes named (answer found) seat.seat.me after)
    asks_as from index place at change answer acts =
        let all = asks place change answer (λ given given_is names. acts given (at ∙ ap (λ (k : Given). from k + index) (sym given_is)) names) in
        let P : Step → Type 0 = λ s. MayTouch opened seat.seat place change (λ found after. Notes s (answer found) seat.seat.me after) in
        subst P is all

    pub made : (is_open : Bool) (after : Seat (Unit {0}) View) (said answer : Answer) → said ≡ answer
        → after.table_id ≡ seat.seat.table_id → after.me ≡ (noted seat.seat.me.0 named said, seat.seat.me.1)
        → of_seat.the_view (record { task = seat.task; is_open = is_open; seat = after }) ≡ seat_after sitting step answer
    made is_open after said answer says id me =
        let whole = me ∙ ap (λ (m : Me). (noted m.0 named said, m.1)) sits.0 in
        let view : TableId → Me → Sitting = λ t m. record {
          table = record { id = t; given = m.0.opening };
          task = seat.task;
          records = own_records m.0.held;
        } in
        (λ i. view (id i) (whole i))
        ∙ (λ i. seat_after (of_seat.the_view seat) (sym is i) (says i))
        ∙ ap (λ (s : Sitting). seat_after s step answer) seat_is

  -- a place behind others, counted from the first of its kind
  pub counted : (from : Given → ℕ) (index place : ℕ) → place ≡ from opened.given + index → index ≡ place - from seat.seat.me.0.opening
  counted from index place at =
      let f : from seat.seat.me.0.opening ≡ from opened.given = ap from same in omega arith
