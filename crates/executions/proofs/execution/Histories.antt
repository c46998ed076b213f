-- The history of an execution has of each task what that did.
use Rattle.std.proofs.Common.{◌≡◌, ◌==◌, ◌≢◌, ◌<◌, ◌≤◌, ◌+◌, ◌∙◌, ◌++◌, inl, inr, ℕ, zero, suc, false, Contains, IfSome, List, [], ◌∷◌}
use Rattle.std.proofs.Common.{None, Option, Some, ap, append_assoc, arith, drop, length, refl, reverse, slice_get, slice_index_or, subst, sym, take}
use Rattle.std.specs.List.{filter}
use Rattle.std.proofs.lemmas.Bool.{eq-eqb, ne_eqb}
use Rattle.std.proofs.lemmas.Bool.Decides.{eqb_tells}
use Rattle.std.proofs.lemmas.List.{append-nil, map-append, reverse-append}
use Rattle.std.proofs.lemmas.List.Elements.{filter-append}
use Rattle.access_types.specs.Access.{Access}
use Rattle.access_types.specs.History.{History, InProgress, beginning, ending, happenings_of}
use Rattle.access_types.specs.declared.history.Happening.{Happening}
use Rattle.access_types.specs.declared.history.Happening.TheVariants as happenings
use Rattle.access_types.specs.declared.history.Moment.{Moment}
use Rattle.litmus_semantics.specs.RunOfProgram.{IsBeginning}
use Rattle.litmus_syntax.specs.Tree.{Block, Task}
use Rattle.slot_table.specs.Records.{records_of}
use Rattle.slot_table.specs.declared.records.Record.{Record}
use Rattle.program_order.specs.Standing as order
use Rattle.program_order.specs.Standing.{Point, point_by}
use Rattle.program_order.specs.TaskObserved.{did_by, did_next, to_come}
use Rattle.program_order.specs.WrittenOrder.{WrittenOrder, first_point}
use Rattle.program_order.proofs.MeaningLemmas.{whole_means}
use Rattle.program_order.proofs.WayLemmas.{Begins}
use Rattle.executions.specs.execution.Run.{Run, idle, task_of, task_setting}
use Rattle.executions.specs.execution.Execution.{InWrittenOrder, Execution}
use Rattle.executions.specs.execution.Observed.{first_moments, history_by, history_of, made_by, moments_of}
use Rattle.executions.proofs.execution.Intervals.{Has, IsOpen, contains_has, has_contains}
use Rattle.executions.proofs.execution.OwnLasts.{own_latest, own_split}
use Rattle.executions.proofs.execution.DoneOnlyGrows.{Chain, by_fewer, by_last, last_of, whole_chain}

-- what of a history is a task's
pub of_both : (task : ℕ) (first second : History)
    → happenings_of task (first ++ second) ≡ happenings_of task first ++ happenings_of task second
of_both task first second =
    rw (
      filter-append (λ (moment : Moment). moment.task == task) first second,
      map-append (λ (moment : Moment). moment.happening)
          (filter (λ (moment : Moment). moment.task == task) first)
          (filter (λ (moment : Moment). moment.task == task) second),
    ) refl

of_own : (task : ℕ) (did : List Happening) → happenings_of task (moments_of task did) ≡ did
of_own task [] = refl
of_own task (first ∷ did) =
    rw (eq-eqb task task refl) (ap (λ (d : List Happening). first ∷ d) (of_own task did))

of_other : (task other : ℕ) (did : List Happening) → other ≢ task
    → happenings_of task (moments_of other did) ≡ []
of_other task other [] differs = refl
of_other task other (first ∷ did) differs = rw (ne_eqb other task differs) (of_other task other did differs)

-- what comes after a beginning
drop_front : (first rest : List Happening) → drop (length first) (first ++ rest) ≡ rest
drop_front [] rest = refl
drop_front (one ∷ first) rest = drop_front first rest

with_rest : (first all : List Happening) → Begins first all → first ++ drop (length first) all ≡ all
with_rest first all begins =
    let P : List Happening → Type 0 = λ d. first ++ drop (length first) d ≡ d in
    subst P (sym begins.1) (ap (λ (d : List Happening). first ++ d) (drop_front first begins.0))

-- what a task did by more of its records begins with what it did by fewer
module _ {s : order.Setting} {registers : ℕ} {body : Block} {records : List Record}
    (written : WrittenOrder s registers body records) where
  start : Point
  start = first_point (to_come written 0) registers

  chain : Chain (first_point (to_come written 0) registers) written.whole.end.way
      × ((last_of (first_point (to_come written 0) registers) written.whole.end.way).progress.did ≡ written.whole.end.progress.did)
  chain = whole_chain s registers body (records ++ written.more) written.whole
      (first_point (to_come written 0) registers) refl

  pub did_more : (made : ℕ) → Begins (did_by written made) (did_by written (made + 1))
  did_more made =
      by_fewer (first_point (to_come written 0) registers) written.whole.end.way (to_come written made)
      (to_come written (made + 1)) (omega arith) chain.0

  pub did_then : (made : ℕ) → did_by written made ++ did_next written made ≡ did_by written (made + 1)
  did_then made = with_rest (did_by written made) (did_by written (made + 1)) (did_more made)

  pub did_of_all : (made : ℕ) → Begins (did_by written made) written.whole.end.progress.did
  did_of_all made =
      subst (λ (d : List Happening). Begins (did_by written made) d) chain.1
      (by_last (first_point (to_come written 0) registers) written.whole.end.way (to_come written made) chain.0)

-- what of a history is a task's is of it, and what of it is the task's is what that did
own_first : (task : ℕ) (first : Moment) (later : History) → first.task ≡ task
    → happenings_of task (first ∷ later) ≡ first.happening ∷ happenings_of task later
own_first task first later is = rw (eq-eqb first.task task is) refl

own_skipped : (task : ℕ) (first : Moment) (later : History) → (first.task == task) ≡ false
    → happenings_of task (first ∷ later) ≡ happenings_of task later
own_skipped task first later differs = rw differs refl

pub own_has : (task : ℕ) (history : History) (x : Happening) → Has (happenings_of task history) x
    → Has history (record { task = task; happening = x })
own_has task [] x h = absurd h
own_has task (first ∷ later) x h = elim (eqb_tells first.task task) [
  | inl mine ↦
      elim (subst (λ (d : List Happening). Has d x) (own_first task first later mine.1) h) [
        | inl here ↦
            inl (ap (λ (t : ℕ). record { task = t; happening = first.happening }) mine.1
            ∙ ap (λ (y : Happening). record { task = task; happening = y }) here)
        | inr more ↦ inr (own_has task later x more)
      ]
  | inr others ↦
      inr (own_has task later x (subst (λ (d : List Happening). Has d x) (own_skipped task first later others.0) h))
]

pub has_own : (task : ℕ) (history : History) (x : Happening) → Has history (record { task = task; happening = x })
    → Has (happenings_of task history) x
has_own task [] x h = absurd h
has_own task (first ∷ later) x h = elim h [
  | inl here ↦
      subst (λ (d : List Happening). Has d x)
      (sym (own_first task first later (ap (λ (moment : Moment). moment.task) here)))
      (inl (ap (λ (moment : Moment). moment.happening) here))
  | inr more ↦ elim (eqb_tells first.task task) [
    | inl mine ↦
        subst (λ (d : List Happening). Has d x) (sym (own_first task first later mine.1)) (inr (has_own task later x more))
    | inr others ↦
        subst (λ (d : List Happening). Has d x) (sym (own_skipped task first later others.0)) (has_own task later x more)
  ]
]

taken_front : (p q : History) → take (length p) (p ++ q) ≡ p
taken_front [] q = refl
taken_front (x ∷ p) q = ap (λ (d : History). x ∷ d) (taken_front p q)

module _ (run : Run) (records : List Record) (list : Execution run records) where
  abbrev count : ℕ
  count = length run.program.tasks

  not_yet : (task n : ℕ) → n ≤ task → happenings_of task (first_moments list n) ≡ []
  not_yet task zero below = refl
  not_yet task (suc n) below =
      of_both task (first_moments list n) (moments_of n (did_by (list.tasks n) 0))
      ∙ (ap (λ (d : List Happening). d ++ happenings_of task (moments_of n (did_by (list.tasks n) 0)))
      (not_yet task n (omega (arith, below)))
      ∙ of_other task n (did_by (list.tasks n) 0) (λ same. omega (arith, below, same)))

  at_start : (task n : ℕ) → task < n → happenings_of task (first_moments list n) ≡ did_by (list.tasks task) 0
  at_start task zero below = absurd (omega (arith, below))
  at_start task (suc n) below =
      of_both task (first_moments list n) (moments_of n (did_by (list.tasks n) 0))
      ∙ elim (eqb_tells n task) [
        | inl here ↦
            ap (λ (d : List Happening). d ++ happenings_of task (moments_of n (did_by (list.tasks n) 0)))
            (not_yet task n (let same : n ≡ task = here.1 in omega (arith, same)))
            ∙ subst (λ (t : ℕ). happenings_of task (moments_of t (did_by (list.tasks t) 0)) ≡ did_by (list.tasks task) 0)
            (sym here.1) (of_own task (did_by (list.tasks task) 0))
        | inr apart ↦
            ap (λ (d : List Happening). happenings_of task (first_moments list n) ++ d)
            (of_other task n (did_by (list.tasks n) 0) apart.1)
            ∙ (append-nil (happenings_of task (first_moments list n))
            ∙ at_start task n (let differs : n ≢ task = apart.1 in omega (arith, below, differs)))
      ]

  -- what of the history is a task's is what it did by its records
  pub of_task : (task : ℕ) → task < count → (earlier : List Record)
      → happenings_of task (history_by list earlier) ≡ did_by (list.tasks task) (made_by task earlier)
  of_task task below [] = at_start task count below
  of_task task below (latest ∷ earlier) =
      let its : List Happening = did_next (list.tasks latest.task) (made_by latest.task earlier) in
      of_both task (history_by list earlier) (moments_of latest.task its)
      ∙ elim (eqb_tells latest.task task) [
        | inl mine ↦
            let made : made_by task earlier + 1 ≡ made_by task (latest ∷ earlier) =
            let so_many : length (records_of task (latest ∷ earlier)) ≡ suc (made_by task earlier) =
            ap (λ (r : List Record). length r) (own_latest task latest earlier mine.1) in omega (arith, so_many) in
            let next : happenings_of task (moments_of latest.task its) ≡ did_next (list.tasks task) (made_by task earlier) =
            subst (λ (t : ℕ). happenings_of task (moments_of t (did_next (list.tasks t) (made_by t earlier)))
            ≡ did_next (list.tasks task) (made_by task earlier)) (sym mine.1)
            (of_own task (did_next (list.tasks task) (made_by task earlier))) in
            ap (λ (d : List Happening). d ++ happenings_of task (moments_of latest.task its)) (of_task task below earlier)
            ∙ (ap (λ (d : List Happening). did_by (list.tasks task) (made_by task earlier) ++ d) next
            ∙ (did_then (list.tasks task) (made_by task earlier)
            ∙ ap (λ (n : ℕ). did_by (list.tasks task) n) made))
        | inr others ↦
            let same : records_of task (latest ∷ earlier) ≡ records_of task earlier = rw others.0 refl in
            ap (λ (d : List Happening). happenings_of task (history_by list earlier) ++ d)
            (of_other task latest.task its others.1)
            ∙ (append-nil (happenings_of task (history_by list earlier))
            ∙ (of_task task below earlier
            ∙ ap (λ (r : List Record). did_by (list.tasks task) (length r)) (sym same)))
      ]

  -- a task's records up to one of them are the front of all of them
  pub front_of : (task : ℕ) (later earlier : List Record) → records ≡ later ++ earlier
      → (rest : List Record) × (reverse (records_of task records) ++ (list.tasks task).more ≡ reverse (records_of task earlier) ++ rest)
  front_of task later earlier is =
      let own : records_of task records ≡ records_of task later ++ records_of task earlier = ap (λ (r : List Record). records_of task r) is ∙ own_split task later earlier in
      let more : List Record = (list.tasks task).more in (
        reverse (records_of task later) ++ more,
        ap (λ (r : List Record). reverse r ++ more) own
            ∙ (ap (λ (r : List Record). r ++ more) (reverse-append (records_of task later) (records_of task earlier))
            ∙ append_assoc (reverse (records_of task earlier)) (reverse (records_of task later)) more),
      )

  -- what is told by earlier records is the front of what is told by all
  pub told_more : (later earlier : List Record) → (more : History) × (history_by list (later ++ earlier) ≡ history_by list earlier ++ more)
  told_more [] earlier = ([], sym (append-nil (history_by list earlier)))
  told_more (latest ∷ later) earlier =
      let its : History = moments_of latest.task (did_next (list.tasks latest.task) (made_by latest.task (later ++ earlier))) in
      let it = told_more later earlier in
      (it.0 ++ its, ap (λ (h : History). h ++ its) it.1 ∙ append_assoc (history_by list earlier) it.0 its)

  told_front : (later earlier : List Record) → records ≡ later ++ earlier
      → take (length (history_by list earlier)) (history_of list) ≡ history_by list earlier
  told_front later earlier is =
      let it = told_more later earlier in
      let front : List Record → Type 0 = λ r. take (length (history_by list earlier)) (history_by list r) ≡ history_by list earlier in
      subst front (sym is)
      (ap (λ (h : History). take (length (history_by list earlier)) h) it.1 ∙ taken_front (history_by list earlier) it.0)

  -- so an access is in progress after the moments of these records where it is by what its task did with its own
  pub in_progress : (later earlier : List Record) → records ≡ later ++ earlier → (a : Access) → a.task < count
      → IsOpen (did_by (list.tasks a.task) (made_by a.task earlier)) a
      → InProgress (history_of list) a (length (history_by list earlier))
  in_progress later earlier is a below goes =
      let told : History = history_by list earlier in
      let front : take (length told) (history_of list) ≡ told = told_front later earlier is in
      let own : happenings_of a.task told ≡ did_by (list.tasks a.task) (made_by a.task earlier) = of_task a.task below earlier in
      record {
        begun = subst (λ (h : History). Contains h (beginning a)) (sym front)
            (has_contains told (beginning a) (own_has a.task told (happenings.Begin a)
            (subst (λ (d : List Happening). Has d (happenings.Begin a)) (sym own) goes.begun)));
        unended = λ ended. goes.unended
            (subst (λ (d : List Happening). Has d (happenings.End a)) own
            (has_own a.task told (happenings.End a)
            (contains_has told (ending a) (subst (λ (h : History). Contains h (ending a)) front ended))));
      }

  get_below : (tasks : List Task) (number : ℕ) (task : Task) → slice_get tasks number ≡ Some task
      → (number < length tasks) × (slice_index_or tasks number idle ≡ task)
  get_below [] number task is = absurd (cc)
  get_below (one ∷ tasks) zero task is = (omega arith, cc)
  get_below (one ∷ tasks) (suc number) task is =
      let it = get_below tasks number task is in (let below : number < length tasks = it.0 in omega (arith, below), it.1)

  if_some : (o : Option Task) (Q : Task → Type 0) → ((task : Task) → o ≡ Some task → Q task) → IfSome o Q
  if_some None Q each = tt
  if_some (Some task) Q each = each task refl

  -- so each task did a beginning of what its text means
  pub each_begins : (number : ℕ) → IfSome (slice_get run.program.tasks number)
      (λ task. IsBeginning run.program run.places number task (happenings_of number (history_of list)))
  each_begins number = if_some (slice_get run.program.tasks number) _ (λ task is.
      let it = get_below run.program.tasks number task is in
      let written : InWrittenOrder run number (records_of number records) = list.tasks number in
      let made : ℕ = made_by number records in
      let begins = did_of_all written made in
      let own : IsBeginning run.program run.places number (task_of run number) (happenings_of number (history_of list)) = record {
        end = written.whole.end.progress;
        rest = begins.0;
        whole = begins.1 ∙ ap (λ (d : List Happening). d ++ begins.0) (sym (of_task number it.0 records));
        means = whole_means (task_setting run number) (length (task_of run number).registers) (task_of run number).body
            (reverse (records_of number records) ++ written.more) written.whole;
      } in
      subst (λ (t : Task). IsBeginning run.program run.places number t (happenings_of number (history_of list))) it.1 own)
