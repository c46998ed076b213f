-- The clock answers how many of its steps come before, and they are few.
use Rattle.std.proofs.Common.{◌+◌, ◌*◌, ◌%◌, ◌^◌, ◌≡◌, ◌<◌, ◌≤◌, ◌==◌, ◌∙◌, ◌++◌, ◌∷◌, ◌⊎◌, [], inl, inr, ℕ, suc, zero, Bool, true, false, List, ap}
use Rattle.std.proofs.Common.{append-nil, arith, count_by, filter, if◌then◌else◌, length, ltb-false, ltb-true, nat_lt, refl, reverse, subst, sym}
use Rattle.std.proofs.Math.Nat.{suc-mul}
use Rattle.std.proofs.lemmas.List.Sums.{sum_by-cons}
use Rattle.std.proofs.lemmas.Bool.Decides.{eqb_tells}
use Rattle.access_types.specs.declared.history.Happening.{Happening}
use Rattle.access_types.specs.declared.history.Happening.TheVariants as happenings
use Rattle.litmus_syntax.specs.Limits.{BodyKeepsLimits, KeepsLimits}
use Rattle.litmus_syntax.specs.Tree as tree
use Rattle.executions.specs.execution.Run.{Run, idle, task_of, task_setting}
use Rattle.executions.specs.execution.Execution.{Execution}
use Rattle.executions.specs.execution.Observed.{made_by}
use Rattle.executions.proofs.execution.Histories.{did_of_all, did_then}
use Rattle.executions.proofs.execution.OwnLasts.{own_latest}
use Rattle.executions.proofs.execution.DoneOnlyGrows.{whole_chain}
use Rattle.soundness.specs.Events.{AreMarks, EachDoesItsEvent, IsEvent, ReadsAtMost, Writes}
use Rattle.slot_table.specs.Records.{Legal, records_of, words_after}
use Rattle.slot_table.specs.StepLine.{step_line}
use Rattle.slot_table.specs.Words.{Words}
use Rattle.slot_table.specs.declared.records.Record.{Record}
use Rattle.slot_table.specs.declared.step.Answer.{Answer}
use Rattle.slot_table.specs.declared.step.Answer.TheVariants as answers
use Rattle.slot_table.specs.declared.step.Step.{Step}
use Rattle.slot_table.specs.declared.step.Step.TheVariants as steps
use Rattle.program_order.specs.Standing as tasks
use Rattle.program_order.specs.Standing.{Point}
use Rattle.program_order.specs.TaskObserved.{did_by, did_next}
use Rattle.program_order.specs.WrittenOrder.{SpellsAll, StepsOfBlock, WrittenOrder, at_first, first_point, stands_after}
use Rattle.executions.specs.observation_determinism.Begins.{begins_in, is_begin}
use Rattle.log_correctness.specs.Stamps.{is_clock, is_end, stamps_in}
use Rattle.log_correctness.proofs.Checked.{all_even, count_both, counted}
use Rattle.log_correctness.proofs.ChecksAndOutcomes.{at_last}

less_tells : (a b : ℕ) → ((nat_lt a b ≡ true) × (a < b)) ⊎ ((nat_lt a b ≡ false) × (b ≤ a))
less_tells a b = by (nat_lt a b) refl
  where
    by : (t : Bool) → nat_lt a b ≡ t → ((nat_lt a b ≡ true) × (a < b)) ⊎ ((nat_lt a b ≡ false) × (b ≤ a))
    by true e = inl (e, ltb-true a b e)
    by false e = inr (e, ltb-false a b e)

-- ---- the clock

clock_after : (words : Words) (step : Step) → (step_line words step).after.clock ≡ (if is_clock step then (words.clock + 1) % 2 ^ 64 else words.clock)
clock_after words (steps.Load index) = refl
clock_after words (steps.Insert index word) = refl
clock_after words (steps.TryConsume index word) = refl
clock_after words (steps.Consume index) = refl
clock_after words (steps.Remove index) = refl
clock_after words (steps.PairLoad index) = refl
clock_after words (steps.Name index ticket) = refl
clock_after words (steps.Tell index ticket) = refl
clock_after words (steps.Clear index) = refl
clock_after words (steps.CellLoad cell) = refl
clock_after words (steps.CellExchange cell expected new) = refl
clock_after words (steps.LockTry lock holder) = refl
clock_after words (steps.LockStore lock) = refl
clock_after words steps.Clock = refl

pub one_more : (latest : Record) (earlier : List Record) → stamps_in (latest ∷ earlier) ≡ (if is_clock latest.step then 1 else 0) + stamps_in earlier
one_more latest earlier = sum_by-cons (λ (made : Record). if is_clock made.step then 1 else 0) latest earlier

fewer : (latest : Record) (earlier : List Record) → stamps_in (latest ∷ earlier) < 2 ^ 64 → stamps_in earlier < 2 ^ 64
fewer latest earlier few = omega (arith, few, one_more latest earlier)

clock_is : (first : Words) (records : List Record) → first.clock ≡ 0 → stamps_in records < 2 ^ 64 → (words_after first records).clock ≡ stamps_in records
clock_is first [] start few = start
clock_is first (latest ∷ earlier) start few =
    by (is_clock latest.step) refl (clock_is first earlier start (fewer latest earlier few))
  where
    by : (b : Bool) → is_clock latest.step ≡ b → (words_after first earlier).clock ≡ stamps_in earlier → (words_after first (latest ∷ earlier)).clock ≡ stamps_in (latest ∷ earlier)
    by true e before =
        let after : (words_after first (latest ∷ earlier)).clock ≡ ((words_after first earlier).clock + 1) % 2 ^ 64 =
        clock_after (words_after first earlier) latest.step ∙ ap (λ b. if b then ((words_after first earlier).clock + 1) % 2 ^ 64 else (words_after first earlier).clock) e in
        let count : stamps_in (latest ∷ earlier) ≡ 1 + stamps_in earlier = one_more latest earlier ∙ ap (λ b. (if b then 1 else 0) + stamps_in earlier) e in
        omega (arith, after, count, before, few)
    by false e before =
        let after : (words_after first (latest ∷ earlier)).clock ≡ (words_after first earlier).clock =
        clock_after (words_after first earlier) latest.step ∙ ap (λ b. if b then ((words_after first earlier).clock + 1) % 2 ^ 64 else (words_after first earlier).clock) e in
        let count : stamps_in (latest ∷ earlier) ≡ 0 + stamps_in earlier = one_more latest earlier ∙ ap (λ b. (if b then 1 else 0) + stamps_in earlier) e in
        omega (arith, after, count, before)

clock_word : (words : Words) → (step_line words steps.Clock).answer ≡ answers.Word words.clock
clock_word words = refl

pub answers_count : (first : Words) (later : List Record) (latest : Record) (earlier : List Record) → first.clock ≡ 0 → Legal first (later ++ latest ∷ earlier)
    → stamps_in (later ++ latest ∷ earlier) < 2 ^ 64 → latest.step ≡ steps.Clock → latest.answer ≡ answers.Word (stamps_in earlier)
answers_count first [] latest earlier start legal few is =
    legal.1.answer ∙ (ap (λ (st : Step). (step_line (words_after first earlier) st).answer) is
    ∙ (clock_word (words_after first earlier) ∙ ap (λ (n : ℕ). answers.Word n) (clock_is first earlier start (fewer latest earlier few))))
answers_count first (one ∷ later) latest earlier start legal few is =
    answers_count first later latest earlier start legal.0 (fewer one (later ++ latest ∷ earlier) few) is

-- ---- a task's own steps of the clock

-- how many accesses begin and end among these
abbrev pub turns : List Happening → ℕ
turns did = count_by is_begin did + count_by is_end did

pub turns_both : (first second : List Happening) → turns (first ++ second) ≡ turns first + turns second
turns_both first second = omega (arith, count_both is_begin first second, count_both is_end first second)

pub turns_of_marks : (did : List Happening) → AreMarks did → turns did ≡ 0
turns_of_marks [] h = refl
turns_of_marks (happenings.Begin a ∷ did) h = absurd h.0
turns_of_marks (happenings.End a ∷ did) h = absurd h.0
turns_of_marks (happenings.Read bytes value ∷ did) h = absurd h.0
turns_of_marks (happenings.Write bytes value ∷ did) h = absurd h.0
turns_of_marks (happenings.Lock lock ∷ did) h = absurd h.0
turns_of_marks (happenings.Unlock lock ∷ did) h = absurd h.0
turns_of_marks (happenings.Mark m ∷ did) h =
    omega (arith, counted is_begin (happenings.Mark m) did, counted is_end (happenings.Mark m) did, turns_of_marks did h.1)

-- so many turns has this
abbrev pub HasTurns : List Happening → ℕ → Type 0
HasTurns did count = turns did ≡ count

is_none : (did : List Happening) → did ≡ [] → HasTurns did 0
is_none did is = subst (λ d. HasTurns d 0) (sym is) refl

reads_none : (s : tasks.Setting) (cell : ℕ) (answer : Answer) (did : List Happening) → ReadsAtMost s cell answer did → HasTurns did 0
reads_none s cell answer did h = elim h [
  | inl none ↦ is_none did none
  | inr reads ↦ subst (λ d. HasTurns d 0) (sym reads.is) refl
]

writes_none : (s : tasks.Setting) (cell old new : ℕ) (did : List Happening) → Writes s cell old new did → HasTurns did 0
writes_none s cell old new did h = elim h.is [
  | inl alone ↦ subst (λ d. HasTurns d 0) (sym alone) refl
  | inr both ↦ subst (λ d. HasTurns d 0) (sym both) refl
]

pub event_turns : (s : tasks.Setting) (before : List Happening) (step : Step) (answer : Answer) (did : List Happening) → IsEvent s before step answer did
    → HasTurns did (if is_clock step then 1 else 0)
event_turns s before (steps.Load index) answer did h = is_none did h
event_turns s before (steps.Insert index word) answer did h = is_none did h
event_turns s before (steps.TryConsume index word) answer did h = is_none did h
event_turns s before (steps.Consume index) answer did h = is_none did h
event_turns s before (steps.Remove index) answer did h = is_none did h
event_turns s before (steps.PairLoad index) answer did h = is_none did h
event_turns s before (steps.Name index ticket) answer did h = is_none did h
event_turns s before (steps.Tell index ticket) answer did h = is_none did h
event_turns s before (steps.Clear index) answer did h = is_none did h
event_turns s before (steps.CellLoad cell) answer did h = reads_none s cell answer did h
event_turns s before (steps.CellExchange cell expected new) (answers.Flag true) did h = writes_none s cell expected new did h
event_turns s before (steps.CellExchange cell expected new) (answers.Flag false) did h = reads_none s cell (answers.Flag false) did h
event_turns s before (steps.CellExchange cell expected new) (answers.Word word) did h = reads_none s cell (answers.Word word) did h
event_turns s before (steps.CellExchange cell expected new) (answers.Halves setter finder) did h = reads_none s cell (answers.Halves setter finder) did h
event_turns s before (steps.CellExchange cell expected new) answers.Done did h = reads_none s cell answers.Done did h
event_turns s before (steps.LockTry lock holder) (answers.Flag true) did h = subst (λ d. HasTurns d 0) (sym h.4) refl
event_turns s before (steps.LockTry lock holder) (answers.Flag false) did h = is_none did h
event_turns s before (steps.LockTry lock holder) (answers.Word word) did h = is_none did h
event_turns s before (steps.LockTry lock holder) (answers.Halves setter finder) did h = is_none did h
event_turns s before (steps.LockTry lock holder) answers.Done did h = is_none did h
event_turns s before (steps.LockStore lock) answer did h = subst (λ d. HasTurns d 0) (sym h.3) refl
event_turns s before steps.Clock answer did h = elim h.1 [
  | inl begins ↦ subst (λ d. HasTurns d 1) (sym begins) refl
  | inr ends ↦ subst (λ d. HasTurns d 1) (sym ends) refl
]

-- the sum over tasks of what is counted of each
abbrev below : ℕ → List Record → List Record
below tasks records = filter (λ (made : Record). nat_lt made.task tasks) records

stamps_kept : (keep : Record → Bool) (latest : Record) (earlier : List Record)
    → stamps_in (filter keep (latest ∷ earlier)) ≡ (if keep latest then (if is_clock latest.step then 1 else 0) else 0) + stamps_in (filter keep earlier)
stamps_kept keep latest earlier = by (keep latest) refl
  where
    by : (b : Bool) → keep latest ≡ b
        → stamps_in (filter keep (latest ∷ earlier)) ≡ (if keep latest then (if is_clock latest.step then 1 else 0) else 0) + stamps_in (filter keep earlier)
    by true e = rw e (one_more latest (filter keep earlier))
    by false e = rw e (omega arith)

one_task_more : (tasks : ℕ) (records : List Record) → stamps_in (below (suc tasks) records) ≡ stamps_in (below tasks records) + stamps_in (records_of tasks records)
one_task_more tasks [] = refl
one_task_more tasks (latest ∷ earlier) =
    let a = stamps_kept (λ (made : Record). nat_lt made.task (suc tasks)) latest earlier in
    let b = stamps_kept (λ (made : Record). nat_lt made.task tasks) latest earlier in
    let c = stamps_kept (λ (made : Record). made.task == tasks) latest earlier in
    a ∙ (one ∙ omega (arith, b, c, one_task_more tasks earlier))
  where
    weight : ℕ
    weight = if is_clock latest.step then 1 else 0

    one : (if nat_lt latest.task (suc tasks) then weight else 0) + stamps_in (below (suc tasks) earlier)
        ≡ ((if nat_lt latest.task tasks then weight else 0) + (if latest.task == tasks then weight else 0)) + stamps_in (below (suc tasks) earlier)
    one = ap (λ n. n + stamps_in (below (suc tasks) earlier)) (elim (less_tells latest.task (suc tasks)) [
      | inl low ↦ elim (eqb_tells latest.task tasks) [
        | inl same ↦ elim (less_tells latest.task tasks) [
          | inl less ↦ let l : latest.task < tasks = less.1 in let e : latest.task ≡ tasks = same.1 in absurd (omega arith)
          | inr not ↦ rw (low.0, same.0, not.0) (omega arith)
        ]
        | inr other ↦ elim (less_tells latest.task tasks) [
          | inl less ↦ rw (low.0, other.0, less.0) (omega arith)
          | inr not ↦ let l : latest.task < suc tasks = low.1 in let n : tasks ≤ latest.task = not.1 in let o : latest.task ≡ tasks → ⊥ = other.1 in absurd (o (omega arith))
        ]
      ]
      | inr high ↦ elim (eqb_tells latest.task tasks) [
        | inl same ↦ let h : suc tasks ≤ latest.task = high.1 in let e : latest.task ≡ tasks = same.1 in absurd (omega arith)
        | inr other ↦ elim (less_tells latest.task tasks) [
          | inl less ↦ let l : latest.task < tasks = less.1 in let h : suc tasks ≤ latest.task = high.1 in absurd (omega arith)
          | inr not ↦ rw (high.0, other.0, not.0) (omega arith)
        ]
      ]
    ])

sum_below : (most tasks : ℕ) (records : List Record) → ((task : ℕ) → task < tasks → stamps_in (records_of task records) ≤ most) → stamps_in (below tasks records) ≤ tasks * most
sum_below most zero records each = omega (arith, none records)
  where
    none : (r : List Record) → stamps_in (below zero r) ≤ 0
    none [] = omega arith
    none (latest ∷ earlier) = elim (less_tells latest.task 0) [
      | inl low ↦ let l : latest.task < 0 = low.1 in absurd (omega arith)
      | inr high ↦ rw high.0 (none earlier)
    ]
sum_below most (suc tasks) records each =
    let before = sum_below most tasks records (λ task less. each task (omega (arith, less))) in
    let last = each tasks (omega arith) in
    let all : suc tasks * most ≡ tasks * most + most = suc-mul tasks most in
    omega (arith, before, last, all, one_task_more tasks records)

all_below : (tasks : ℕ) (records : List Record) → ((later earlier : List Record) (latest : Record) → records ≡ later ++ latest ∷ earlier → latest.task < tasks)
    → stamps_in (below tasks records) ≡ stamps_in records
all_below tasks [] each = refl
all_below tasks (latest ∷ earlier) each =
    elim (less_tells latest.task tasks) [
      | inl low ↦
          rw low.0 (one_more latest (below tasks earlier)
          ∙ (ap (λ n. (if is_clock latest.step then 1 else 0) + n) (all_below tasks earlier (λ later before one is. each (latest ∷ later) before one (ap (λ r. latest ∷ r) is)))
          ∙ sym (one_more latest earlier)))
      | inr high ↦ let h : tasks ≤ latest.task = high.1 in let l = each [] earlier latest refl in absurd (omega (arith, h, l))
    ]

module _ (run : Run) (records : List Record) (list : Execution run records) (each : EachDoesItsEvent list records) (first : (task : ℕ) → AreMarks (did_by (list.tasks task) 0)) where
  -- what a task's records did has as many turns as the clock has steps among them
  own_turns_by : (later earlier : List Record) (task : ℕ) → EachDoesItsEvent list earlier → turns (did_by (list.tasks task) (made_by task earlier)) ≡ stamps_in (records_of task earlier)
  own_turns_by later [] task does = turns_of_marks (did_by (list.tasks task) 0) (first task)
  own_turns_by later (latest ∷ earlier) task does = elim (eqb_tells latest.task task) [
    | inl mine ↦
        let own : records_of task (latest ∷ earlier) ≡ latest ∷ records_of task earlier = own_latest task latest earlier mine.1 in
        let made : ℕ = made_by task earlier in
        let so_many : made + 1 ≡ made_by task (latest ∷ earlier) = let l : made_by task (latest ∷ earlier) ≡ suc made = ap (λ (r : List Record). length r) own in omega (arith, l) in
        let before = own_turns_by later earlier task does.0 in
        let event = does.1 in
        let next : did_next (list.tasks latest.task) (made_by latest.task earlier) ≡ did_next (list.tasks task) made =
        ap (λ (t : ℕ). did_next (list.tasks t) (made_by t earlier)) mine.1 in
        let now : turns (did_next (list.tasks task) made) ≡ (if is_clock latest.step then 1 else 0) =
        ap turns (sym next ∙ event.all) ∙ (turns_both event.event event.marks
        ∙ omega (arith, event_turns (task_setting run latest.task) (did_by (list.tasks latest.task) (made_by latest.task earlier)) latest.step latest.answer event.event event.is_event, turns_of_marks event.marks event.are_marks)) in
        let all : turns (did_by (list.tasks task) (made_by task (latest ∷ earlier))) ≡ turns (did_by (list.tasks task) made) + turns (did_next (list.tasks task) made) =
        ap (λ (n : ℕ). turns (did_by (list.tasks task) n)) (sym so_many) ∙ (ap turns (sym (did_then (list.tasks task) made))
        ∙ turns_both (did_by (list.tasks task) made) (did_next (list.tasks task) made)) in
        all ∙ (omega (arith, now, before, one_more latest (records_of task earlier)) ∙ ap (λ (r : List Record). stamps_in r) (sym own))
    | inr others ↦
        let same : records_of task (latest ∷ earlier) ≡ records_of task earlier = rw others.0 refl in
        ap (λ (r : List Record). turns (did_by (list.tasks task) (length r))) same ∙ (own_turns_by later earlier task does.0 ∙ ap (λ (r : List Record). stamps_in r) (sym same))
  ]

  module _ (few : (s : tasks.Setting) (registers : ℕ) (body : tree.Block) (mine : List Record) (written : WrittenOrder s registers body mine)
      → BodyKeepsLimits body → begins_in (stands_after written).progress.did ≤ 1024) where
    own_few : (task : ℕ) → BodyKeepsLimits (task_of run task).body → stamps_in (records_of task records) ≤ 2048
    own_few task keeps =
        let s : tasks.Setting = task_setting run task in
        let registers : ℕ = length (task_of run task).registers in
        let body : tree.Block = (task_of run task).body in
        let written = list.tasks task in
        let whole : List Record = reverse (records_of task records) ++ written.more in
        let spells : SpellsAll s registers body (whole ++ []) = record {
          end = written.whole.end;
          steps = subst (λ (r : List Record). StepsOfBlock s 0 body (at_first registers) r written.whole.end []) (sym (append-nil whole)) written.whole.steps;
        } in
        let all : WrittenOrder s registers body whole = record { more = []; whole = spells } in
        let start : Point = first_point (length (whole ++ [])) registers in
        let chain = whole_chain s registers body whole written.whole start refl in
        let did : (stands_after all).progress.did ≡ written.whole.end.progress.did =
        ap (λ (p : Point). p.progress.did) (at_last start written.whole.end.way) ∙ chain.1 in
        let most : begins_in written.whole.end.progress.did ≤ 1024 = subst (λ (d : List Happening). begins_in d ≤ 1024) did (few s registers body whole all keeps) in
        let even = all_even s registers body whole written.whole in
        let made : ℕ = made_by task records in
        let front = did_of_all written made in
        let parts : turns written.whole.end.progress.did ≡ turns (did_by written made) + turns front.0 = ap turns front.1 ∙ turns_both (did_by written made) front.0 in
        omega (arith, most, even, parts, own_turns_by [] records task each)

    pub few_stamps : KeepsLimits run.program → ((later earlier : List Record) (latest : Record) → records ≡ later ++ latest ∷ earlier → latest.task < length run.program.tasks)
        → stamps_in records < 2 ^ 64
    few_stamps keeps low =
        let sum = sum_below 2048 (length run.program.tasks) records (λ task less. own_few task (keeps.each_task task idle less).body) in
        let count : length run.program.tasks ≤ 16 = keeps.tasks in
        let most : length run.program.tasks * 2048 ≤ 16 * 2048 = omega (arith, count) in
        omega (arith, sum, most, all_below (length run.program.tasks) records low)
