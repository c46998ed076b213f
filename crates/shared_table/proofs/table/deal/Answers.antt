use Rattle.std.proofs.Common.{◌≡◌, ℕ, suc, ◌+◌, ◌-◌, ◌<◌, [], ◌∷◌, ◌++◌, sym, ap, ◌∙◌, subst, arith}
use Rattle.std.proofs.lemmas.List.FromFn.{map-range_with_len_more}
use Rattle.atomic_table.specs.Table.{Splits, State}
use Rattle.shared_table.specs.RunningWords.{RunningWords}
use Rattle.shared_table.specs.Plays.{Me}
use Rattle.shared_table.specs.Seats.{Opened, Sitting}
use Rattle.shared_table.specs.Given.{Given}
use Rattle.shared_table.specs.Views.{alone, first_of, holding, without_first}
use Rattle.shared_table.specs.declared.view.View.{View}
use Rattle.shared_table.proofs.Dealing.{split}
use Rattle.shared_table.proofs.table.deal.Goals as goal

abbrev new_seat : Opened → ℕ → Sitting
new_seat opened task = record { table = opened; task = task; records = [] }

-- the first of what is left, and the others
one_of : (tasks task : ℕ) → task < tasks → tasks - task ≡ suc (tasks - (task + 1))
one_of tasks task below = omega arith

pub split_seat-seat-requires : goal.split_seat-seat-requires
split_seat-seat-requires c =
    let key = c.args.row.now.shared.key in
    let task = c.loop-task.task in
    let is = c.loop-task.invariant.rest ∙ ap (λ (n : ℕ). (holding key task n, [])) (one_of c.args.tasks task c.loop-task-test.true) in
    let P : Me → Type 0 = λ me. Splits (λ (s : State (Unit {0}) View). RunningWords key s.words s.views) c.loop-task.first.id me.0
    (record me.0 { held = without_first me.0.held }) (record me.0 { held = first_of me.0.held }) in (
      c.loop-task.invariant.same,
      c.requires.some_word,
      subst P (sym is) (λ s now at. split key c.loop-task.first.id task (c.args.tasks - (task + 1)) s.words s.views now at),
    )

pub push_reserved-requires : goal.push_reserved-requires
push_reserved-requires c = omega (arith, c.loop-task.invariant.count, c.loop-task.invariant.room, c.loop-task-test.true)

-- the new seat has the first of what was left
its_own : Me → Me
its_own me = (record me.0 { held = first_of me.0.held }, [])

alone_is : (me : Me) (given : Given) (task : ℕ) → me ≡ (alone given task [], []) → me ≡ (alone me.0.opening task [], [])
alone_is me given task is = is ∙ sym (ap (λ (m : Me). (alone m.0.opening task [], [])) is)

pub new-requires-clause-alone : goal.new-requires-clause-alone
unfolding its_own
new-requires-clause-alone c =
    let key = c.args.row.now.shared.key in
    let task = c.loop-task.task in
    let is = c.loop-task.invariant.rest ∙ ap (λ (n : ℕ). (holding key task n, [])) (one_of c.args.tasks task c.loop-task-test.true) in
    alone_is c.split_seat-seat.result.me key task (c.split_seat-seat.ensures.4 ∙ ap its_own is)

pub loop-task-preserved : goal.loop-task-preserved
unfolding its_own
loop-task-preserved c =
    let key = c.args.row.now.shared.key in
    let task = c.loop-task.task in
    let opened : Opened = record { id = c.args.row.now.shared.table_id; given = key } in
    let is = c.loop-task.invariant.rest ∙ ap (λ (n : ℕ). (holding key task n, [])) (one_of c.args.tasks task c.loop-task-test.true) in
    let told = c.split_seat-seat.ensures in
    let given_is = ap (λ (me : Me). me.0.opening) (told.4 ∙ ap its_own is) in
    let seat_is : new_seat (record { id = c.split_seat-seat.result.table_id; given = c.split_seat-seat.result.me.0.opening }) task ≡ new_seat opened task =
    λ i. new_seat (record { id = (told.3 ∙ c.loop-task.invariant.same) i; given = given_is i }) task in
    let cut : Me → Me = λ me. (record me.0 { held = without_first me.0.held }, me.1) in
    record {
      same = told.0 ∙ c.loop-task.invariant.same;
      rest = told.2 ∙ ap cut is;
      seats = c.push_reserved.ensures.items
          ∙ (λ i. c.loop-task.invariant.seats i ++ (c.new.ensures ∙ seat_is) i ∷ [])
          ∙ sym (map-range_with_len_more (λ (t : ℕ). new_seat opened t) 0 task task (omega arith));
      count = omega (arith, c.push_reserved.ensures.len, c.loop-task.invariant.count);
      room = omega (arith, c.push_reserved.ensures.capacity, c.loop-task.invariant.room);
    }
