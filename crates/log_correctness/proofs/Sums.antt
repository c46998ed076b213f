-- The counts of tasks add up to those of the list.
use Rattle.std.proofs.Common.{◌≡◌, ◌≢◌, ◌∙◌, ◌<◌, ◌≤◌, ◌+◌, ◌==◌, ◌++◌, ◌∷◌, [], inl, inr, ℕ}
use Rattle.std.proofs.Common.{zero, suc, Bool, false, List, None, Option, Some, ap, append_assoc, arith, cond, count_by, filter, length, map}
use Rattle.std.proofs.Common.{nat_lt, refl, reverse, slice_index_or, subst, sym}
use Rattle.std.specs.Option.{option_to_list}
use Rattle.std.proofs.lemmas.Bool.{eq-eqb, le-ltb, lt-ltb, ne_eqb}
use Rattle.std.proofs.lemmas.Bool.Decides.{eqb_tells, leb_tells}
use Rattle.std.proofs.lemmas.List.{append-nil, length-append, length-reverse}
use Rattle.std.proofs.lemmas.List.Sums.{sum_by-cons}
use Rattle.litmus_syntax.specs.Tree.{Block, Task}
use Rattle.litmus_syntax.specs.Tree as tree
use Rattle.executions.specs.execution.Run.{Run, idle, task_of, task_setting}
use Rattle.executions.specs.execution.Execution.{Execution}
use Rattle.executions.specs.execution.Observed.{Armed, OutcomeAt, armed_by, came_next, made_by, outcome_at, outcomes_by}
use Rattle.executions.proofs.execution.OwnLasts.{own_latest, own_split}
use Rattle.log_correctness.specs.Noted.{AreNoted, IsNoted, NotesBy}
use Rattle.log_correctness.specs.Totals.{outcomes_below}
use Rattle.setup_access.specs.Check.{Fallen}
use Rattle.setup_access.specs.declared.outcome.Outcome.{Outcome}
use Rattle.slot_table.specs.Records.{records_of}
use Rattle.slot_table.specs.declared.records.Record.{Record}
use Rattle.slot_table.specs.declared.step.Answer.{Answer}
use Rattle.slot_table.specs.declared.step.Step.{Step}
use Rattle.task_log.specs.Counters.{resting, together}
use Rattle.task_log.specs.declared.noted.Noted.{Noted}
use Rattle.program_order.specs.Standing.{Setting}
use Rattle.program_order.specs.TaskObserved.{fell_next}
use Rattle.program_order.specs.WrittenOrder.{WrittenOrder}

pub counted : {X : Type 0} (p : X → Bool) (x : X) (xs : List X) → count_by p (x ∷ xs) ≡ cond (p x) 1 0 + count_by p xs
counted p x xs = sum_by-cons (λ g. cond (p g) 1 0) x xs

none_and : (n : ℕ) → n ≡ 0 + n
none_and n = omega arith

pub counted_both : {X : Type 0} (p : X → Bool) (first later : List X) → count_by p (first ++ later) ≡ count_by p first + count_by p later
counted_both p [] later = none_and (count_by p later)
counted_both p (x ∷ first) later =
    let one : count_by p (x ∷ (first ++ later)) ≡ cond (p x) 1 0 + count_by p (first ++ later) = counted p x (first ++ later) in
    let two : count_by p (x ∷ first) ≡ cond (p x) 1 0 + count_by p first = counted p x first in
    let rest : count_by p (first ++ later) ≡ count_by p first + count_by p later = counted_both p first later in
    omega (arith, one, two, rest)

pub resting_sum : (a b : ℕ) → together (resting a) (resting b) ≡ resting (a + b)
resting_sum a b = omega arith

abbrev pub below : ℕ → List Record → List Record
below tasks records = filter (λ made. nat_lt made.task tasks) records

-- a record's task is one of those before a number, this one, or one after it
pub data Place (task : ℕ) (made : Record) : Type 0 where
  comes_before : made.task < task → Place task made
  is_this : made.task ≡ task → Place task made
  comes_after : task < made.task → Place task made

pub place : (task : ℕ) (made : Record) → Place task made
place task made = elim (leb_tells task made.task) [
  | inr less ↦ comes_before less.1
  | inl more ↦ elim (eqb_tells made.task task) [
    | inl same ↦ is_this same.1
    | inr apart ↦
        let most : task ≤ made.task = more.1 in
        let differs : made.task ≢ task = apart.1 in comes_after (omega (arith, most, differs))
  ]
]

-- those of a step and its answer
module _ (p : Step → Answer → Bool) where
  abbrev pub of_record : Record → Bool
  of_record made = p made.step made.answer

  abbrev pub of_step : Noted → Bool
  of_step noted = p noted.step noted.answer

  pub steps_noted : {s : Setting} {registers : ℕ} {body : Block} {records : List Record} (written : WrittenOrder s registers body records) (own : List Record)
      (noted : List Noted) → AreNoted written own noted → count_by of_step noted ≡ count_by of_record own
  steps_noted written [] [] are = refl
  steps_noted written [] (noted ∷ before) are = absurd are
  steps_noted written (latest ∷ earlier) [] are = absurd are
  steps_noted written (latest ∷ earlier) (noted ∷ before) are =
      let same : p noted.step noted.answer ≡ p latest.step latest.answer =
      ap (λ (st : Step). p st noted.answer) are.1.step ∙ ap (λ (an : Answer). p latest.step an) are.1.answer in
      counted of_step noted before
      ∙ (ap (λ (b : Bool). cond b 1 0 + count_by of_step before) same
      ∙ (ap (λ (n : ℕ). cond (p latest.step latest.answer) 1 0 + n) (steps_noted written earlier before are.0)
      ∙ sym (counted of_record latest earlier)))

  pub none_below : (records : List Record) → count_by of_record (below 0 records) ≡ 0
  none_below [] = refl
  none_below (latest ∷ earlier) = rw (le-ltb latest.task 0 (omega arith)) (none_below earlier)

  kept : (tasks : ℕ) (latest : Record) (earlier : List Record) → latest.task < tasks
      → count_by of_record (below tasks (latest ∷ earlier)) ≡ cond (of_record latest) 1 0 + count_by of_record (below tasks earlier)
  kept tasks latest earlier less =
      let is : below tasks (latest ∷ earlier) ≡ latest ∷ below tasks earlier = rw (lt-ltb latest.task tasks less) refl in
      ap (λ (r : List Record). count_by of_record r) is ∙ counted of_record latest (below tasks earlier)

  dropped : (tasks : ℕ) (latest : Record) (earlier : List Record) → tasks ≤ latest.task
      → count_by of_record (below tasks (latest ∷ earlier)) ≡ count_by of_record (below tasks earlier)
  dropped tasks latest earlier more =
      let is : below tasks (latest ∷ earlier) ≡ below tasks earlier = rw (le-ltb latest.task tasks more) refl in
      ap (λ (r : List Record). count_by of_record r) is

  pub one_task_more : (task : ℕ) (records : List Record)
      → count_by of_record (below (suc task) records) ≡ count_by of_record (below task records) + count_by of_record (records_of task records)
  one_task_more task [] = refl
  one_task_more task (latest ∷ earlier) = by_place (one_task_more task earlier) (place task latest)
    where
      by_place : count_by of_record (below (suc task) earlier) ≡ count_by of_record (below task earlier) + count_by of_record (records_of task earlier)
          → Place task latest → count_by of_record (below (suc task) (latest ∷ earlier))
          ≡ count_by of_record (below task (latest ∷ earlier)) + count_by of_record (records_of task (latest ∷ earlier))
      by_place rest (comes_before less) =
          let all = kept (suc task) latest earlier (omega (arith, less)) in
          let some = kept task latest earlier less in
          let others : records_of task (latest ∷ earlier) ≡ records_of task earlier =
          rw (ne_eqb latest.task task (λ (is : latest.task ≡ task). omega (arith, less, is))) refl in
          let own = ap (λ (r : List Record). count_by of_record r) others in omega (arith, all, some, own, rest)
      by_place rest (is_this is) =
          let all = kept (suc task) latest earlier (omega (arith, is)) in
          let some = dropped task latest earlier (omega (arith, is)) in
          let own = ap (λ (r : List Record). count_by of_record r) (own_latest task latest earlier is) in
          let one = counted of_record latest (records_of task earlier) in omega (arith, all, some, own, one, rest)
      by_place rest (comes_after more) =
          let all = dropped (suc task) latest earlier (omega (arith, more)) in
          let some = dropped task latest earlier (omega (arith, more)) in
          let others : records_of task (latest ∷ earlier) ≡ records_of task earlier =
          rw (ne_eqb latest.task task (λ (is : latest.task ≡ task). omega (arith, more, is))) refl in
          let own = ap (λ (r : List Record). count_by of_record r) others in omega (arith, all, some, own, rest)

-- those of an outcome, if there is one
module _ (p : Option Outcome → Bool) (none : p None ≡ false) (run : Run) (all : List Record) (list : Execution run all) where
  abbrev pub of_came : OutcomeAt → Bool
  of_came came = p (Some came.outcome)

  abbrev pub of_outcome : Noted → Bool
  of_outcome noted = p noted.outcome

  abbrev of_one : Outcome → Bool
  of_one outcome = p (Some outcome)

  came_alike : (at : ℕ) (arming : Option Armed) (fallen : List Fallen)
      → count_by of_came (map (outcome_at at arming) fallen) ≡ count_by of_one (map (λ (f : Fallen). f.outcome) fallen)
  came_alike at arming [] = refl
  came_alike at arming (one ∷ others) =
      counted of_came (outcome_at at arming one) (map (outcome_at at arming) others)
      ∙ (ap (λ (n : ℕ). cond (p (Some one.outcome)) 1 0 + n) (came_alike at arming others)
      ∙ sym (counted of_one one.outcome (map (λ (f : Fallen). f.outcome) others)))

  one_outcome : (outcome : Option Outcome) → count_by of_one (option_to_list outcome) ≡ cond (p outcome) 1 0
  one_outcome None = ap (λ (b : Bool). cond b 1 0) (sym none)
  one_outcome (Some outcome) = let one = counted of_one outcome [] in omega (arith, one)

  -- how often it came at a task's records
  abbrev pub came_of : ℕ → List Record → ℕ
  came_of task [] = 0
  came_of task (latest ∷ earlier) = cond (latest.task == task) (count_by of_came (came_next list latest earlier)) 0 + came_of task earlier

  pub outcomes_noted : (task : ℕ) (records : List Record) (noted : List Noted) → NotesBy list records task noted
      → count_by of_outcome noted ≡ came_of task records
  outcomes_noted task [] [] are = refl
  outcomes_noted task [] (noted ∷ before) are = absurd are
  outcomes_noted task (latest ∷ earlier) noted are = elim (eqb_tells latest.task task) [
    | inl mine ↦ rw mine.0 (its (λ before are_so. outcomes_noted task earlier before are_so) noted (subst (λ (r : List Record). AreNoted (list.tasks task) r noted) (own_latest task latest earlier mine.1) are) mine.1)
    | inr others ↦
        let same : records_of task (latest ∷ earlier) ≡ records_of task earlier = rw others.0 refl in
        rw others.0 (outcomes_noted task earlier noted (subst (λ (r : List Record). AreNoted (list.tasks task) r noted) same are)
        ∙ none_and (came_of task earlier))
  ]
    where
      its : ((before : List Noted) → NotesBy list earlier task before → count_by of_outcome before ≡ came_of task earlier)
          → (noted : List Noted) → AreNoted (list.tasks task) (latest ∷ records_of task earlier) noted → latest.task ≡ task
          → count_by of_outcome noted ≡ count_by of_came (came_next list latest earlier) + came_of task earlier
      its each [] are is = absurd are
      its each (noted ∷ before) are is =
          let at : IsNoted (list.tasks latest.task) (made_by latest.task earlier) latest noted =
          subst (λ (t : ℕ). IsNoted (list.tasks t) (made_by t earlier) latest noted) (sym is) are.1 in
          let fell : List Fallen = fell_next (list.tasks latest.task) (made_by latest.task earlier) in
          let came : count_by of_came (came_next list latest earlier) ≡ count_by of_one (map (λ (f : Fallen). f.outcome) fell) =
          came_alike (length earlier) (armed_by latest.task (latest ∷ earlier)) fell in
          let one : count_by of_one (map (λ (f : Fallen). f.outcome) fell) ≡ cond (p noted.outcome) 1 0 =
          ap (λ (l : List Outcome). count_by of_one l) at.outcome ∙ one_outcome noted.outcome in
          let rest : count_by of_outcome before ≡ came_of task earlier = each before are.0 in
          let first : count_by of_outcome (noted ∷ before) ≡ cond (p noted.outcome) 1 0 + count_by of_outcome before = counted of_outcome noted before in
          omega (arith, came, one, rest, first)

  pub no_outcome_below : (records : List Record) → count_by of_came (outcomes_below list 0 records) ≡ 0
  no_outcome_below [] = refl
  no_outcome_below (latest ∷ earlier) =
      let is : outcomes_below list 0 (latest ∷ earlier) ≡ outcomes_below list 0 earlier ++ [] = rw (le-ltb latest.task 0 (omega arith)) refl in
      ap (λ (l : List OutcomeAt). count_by of_came l) (is ∙ append-nil (outcomes_below list 0 earlier)) ∙ no_outcome_below earlier

  joined : (tasks : ℕ) (latest : Record) (earlier : List Record) → latest.task < tasks
      → count_by of_came (outcomes_below list tasks (latest ∷ earlier))
      ≡ count_by of_came (outcomes_below list tasks earlier) + count_by of_came (came_next list latest earlier)
  joined tasks latest earlier less =
      let is : outcomes_below list tasks (latest ∷ earlier) ≡ outcomes_below list tasks earlier ++ came_next list latest earlier =
      rw (lt-ltb latest.task tasks less) refl in
      ap (λ (l : List OutcomeAt). count_by of_came l) is ∙ counted_both of_came (outcomes_below list tasks earlier) (came_next list latest earlier)

  left_out : (tasks : ℕ) (latest : Record) (earlier : List Record) → tasks ≤ latest.task
      → count_by of_came (outcomes_below list tasks (latest ∷ earlier)) ≡ count_by of_came (outcomes_below list tasks earlier)
  left_out tasks latest earlier more =
      let is : outcomes_below list tasks (latest ∷ earlier) ≡ outcomes_below list tasks earlier ++ [] = rw (le-ltb latest.task tasks more) refl in
      ap (λ (l : List OutcomeAt). count_by of_came l) (is ∙ append-nil (outcomes_below list tasks earlier))

  pub one_task_came : (task : ℕ) (records : List Record)
      → count_by of_came (outcomes_below list (suc task) records) ≡ count_by of_came (outcomes_below list task records) + came_of task records
  one_task_came task [] = refl
  one_task_came task (latest ∷ earlier) = by_place (one_task_came task earlier) (place task latest)
    where
      its : ℕ
      its = count_by of_came (came_next list latest earlier)

      by_place : count_by of_came (outcomes_below list (suc task) earlier) ≡ count_by of_came (outcomes_below list task earlier) + came_of task earlier
          → Place task latest → count_by of_came (outcomes_below list (suc task) (latest ∷ earlier))
          ≡ count_by of_came (outcomes_below list task (latest ∷ earlier)) + came_of task (latest ∷ earlier)
      by_place rest (comes_before less) =
          let all = joined (suc task) latest earlier (omega (arith, less)) in
          let some = joined task latest earlier less in
          let own : came_of task (latest ∷ earlier) ≡ 0 + came_of task earlier =
          rw (ne_eqb latest.task task (λ (is : latest.task ≡ task). omega (arith, less, is))) refl in omega (arith, all, some, own, rest)
      by_place rest (is_this is) =
          let all = joined (suc task) latest earlier (omega (arith, is)) in
          let some = left_out task latest earlier (omega (arith, is)) in
          let own : came_of task (latest ∷ earlier) ≡ its + came_of task earlier = rw (eq-eqb latest.task task is) refl in omega (arith, all, some, own, rest)
      by_place rest (comes_after more) =
          let all = left_out (suc task) latest earlier (omega (arith, more)) in
          let some = left_out task latest earlier (omega (arith, more)) in
          let own : came_of task (latest ∷ earlier) ≡ 0 + came_of task earlier =
          rw (ne_eqb latest.task task (λ (is : latest.task ≡ task). omega (arith, more, is))) refl in omega (arith, all, some, own, rest)

-- only tasks of the program make records
beyond : (tasks : List Task) (number : ℕ) → length tasks ≤ number → slice_index_or tasks number idle ≡ idle
beyond [] number past = refl
beyond (one ∷ tasks) zero past = absurd (omega (arith, past))
beyond (one ∷ tasks) (suc number) past = beyond tasks number (omega (arith, past))

nothing_spelled : (s : Setting) (registers : ℕ) (body : Block) (records : List Record) → body ≡ tree.empty → WrittenOrder s registers body records → length records ≡ 0
nothing_spelled s registers body records is written =
    let empty : WrittenOrder s registers tree.empty records = subst (λ (b : Block). WrittenOrder s registers b records) is written in
    let none : length {A = Record} [] ≡ length (records ++ empty.more) = ap (λ (l : List Record). length l) empty.whole.steps.1 in
    let both : length (records ++ empty.more) ≡ length records + length empty.more = length-append records empty.more in omega (arith, none, both)

module _ (run : Run) (all : List Record) (list : Execution run all) where
  abbrev tasks : ℕ
  tasks = length run.program.tasks

  none_beyond : (task : ℕ) → tasks ≤ task → length (records_of task all) ≡ 0
  none_beyond task past =
      let idles : task_of run task ≡ idle = beyond run.program.tasks task past in
      sym (length-reverse (records_of task all))
      ∙ nothing_spelled (task_setting run task) (length (task_of run task).registers) (task_of run task).body (reverse (records_of task all))
      (ap (λ (t : Task). t.body) idles) (list.tasks task)

  pub within : (later earlier : List Record) (latest : Record) → all ≡ later ++ latest ∷ earlier → latest.task < tasks
  within later earlier latest is = elim (leb_tells tasks latest.task) [
    | inr less ↦ less.1
    | inl more ↦
        let task : ℕ = latest.task in
        let none : length (records_of task all) ≡ 0 = none_beyond task more.1 in
        let split : records_of task all ≡ records_of task later ++ records_of task (latest ∷ earlier) =
        ap (λ (r : List Record). records_of task r) is ∙ own_split task later (latest ∷ earlier) in
        let own : records_of task (latest ∷ earlier) ≡ latest ∷ records_of task earlier = own_latest task latest earlier refl in
        let size : length (records_of task all) ≡ length (records_of task later) + suc (length (records_of task earlier)) =
        ap (λ (r : List Record). length r) split ∙ (length-append (records_of task later) (records_of task (latest ∷ earlier))
        ∙ ap (λ (r : List Record). length (records_of task later) + length r) own) in
        absurd (omega (arith, none, size))
  ]

  all_below_by : (later earlier : List Record) → all ≡ later ++ earlier → below tasks earlier ≡ earlier
  all_below_by later [] is = refl
  all_below_by later (latest ∷ earlier) is =
      rw (lt-ltb latest.task tasks (within later earlier latest is))
      (ap (λ (r : List Record). latest ∷ r) (all_below_by (later ++ latest ∷ []) earlier (is ∙ sym (append_assoc later (latest ∷ []) earlier))))

  pub all_below : below tasks all ≡ all
  all_below = all_below_by [] all refl

  all_came_by : (later earlier : List Record) → all ≡ later ++ earlier → outcomes_below list tasks earlier ≡ outcomes_by list earlier
  all_came_by later [] is = refl
  all_came_by later (latest ∷ earlier) is =
      rw (lt-ltb latest.task tasks (within later earlier latest is))
      (ap (λ (l : List OutcomeAt). l ++ came_next list latest earlier)
      (all_came_by (later ++ latest ∷ []) earlier (is ∙ sym (append_assoc later (latest ∷ []) earlier))))

  pub all_came : outcomes_below list tasks all ≡ outcomes_by list all
  all_came = all_came_by [] all refl
