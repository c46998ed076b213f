-- The waits of one task more.
use Rattle.std.proofs.Common.{◌≡◌, ◌≢◌, ◌<◌, ◌≤◌, ◌^◌, ◌↔◌, ◌+◌, ◌⊎◌, ◌++◌, ◌∷◌, ◌∙◌, [], ℕ, Contains, IfSome, IsNone, List, None, Option, Some, ap, arith, inl, inr, length}
use Rattle.std.proofs.Common.{refl, reverse, slice_get, subst, sym, get_or}
use Rattle.std.proofs.lemmas.Bool.Decides.{eqb_tells}
use Rattle.std.proofs.lemmas.List.{append-nil}
use Rattle.std.proofs.lemmas.List.Quantifiers.{all_pairs_push}
use Rattle.std.proofs.lemmas.List.Elements.{Contains-append_left, Contains-get_or, Contains-push, Contains-push_cases}
use Rattle.access_run.specs.memory_operation.Leads.{GoesOn}
use Rattle.source_places.specs.deadlocks.Waits.{AreWaitsBelow, IsLockWait, TriesLock, lock_of}
use Rattle.source_places.specs.declared.deadlocks.waits.LockWait.{LockWait}
use Rattle.executions.specs.execution.Execution.{InWrittenOrder}
use Rattle.executions.specs.execution.Run.{Run, first_words, task_of, task_setting}
use Rattle.litmus_step.specs.Leads.{GoesOnWith}
use Rattle.litmus_step.specs.Steps.{LeadsTo, MakesNoStep, tasks_in}
use Rattle.litmus_step.specs.declared.world.World.{World}
use Rattle.program_order.specs.Waits.{OnlyStep}
use Rattle.program_order.specs.WrittenOrder.{SpellsAll}
use Rattle.slot_table.specs.Records.{records_of, words_after}
use Rattle.slot_table.specs.Words.{Words}
use Rattle.slot_table.specs.declared.records.Record.{Record}
use Rattle.slot_table.specs.declared.step.Step.{Step}
use Rattle.slot_table.specs.declared.step.Step.TheVariants.{LockTry}

-- a task goes on with one step
only_one : (run : Run) (records : List Record) (task : ℕ) (one other : Step) → InWrittenOrder run task (records_of task records)
    → OnlyStep (task_setting run task) (length (task_of run task).registers) (task_of run task).body (reverse (records_of task records)) one
    → OnlyStep (task_setting run task) (length (task_of run task).registers) (task_of run task).body (reverse (records_of task records)) other
    → one ≡ other
only_one run records task one other written first second = along written.more (first written.more written.whole) (second written.more written.whole)
  where
    along : (later : List Record) → GoesOn task one later → GoesOn task other later → one ≡ other
    along [] a b = absurd a
    along (made ∷ later) a b = sym a.1 ∙ b.1

tries_what : (step : Step) (lock : ℕ) → lock_of (Some step) ≡ Some lock → (by : ℕ) × (step ≡ LockTry lock by)
tries_what (LockTry at by) lock is = let same : at ≡ lock = cc in (by, ap (λ n. LockTry n by) same)
tries_what step lock is = absurd (cc)

-- it tries to take a lock if its next step does so
pub tries_by : (run : Run) (records : List Record) (task : ℕ) (next : Option Step) → InWrittenOrder run task (records_of task records)
    → IfSome next (GoesOnWith run task records) → IsNone next ↔ MakesNoStep run records task
    → (lock : ℕ) → lock_of next ≡ Some lock ↔ TriesLock run records task lock
tries_by run records task None written goes none lock = (
  λ (is : None ≡ Some lock). absurd (cc),
  λ tries. elim (none.0 refl) [
    | inl ended ↦ absurd (tries.next [] (subst (SpellsAll _ _ _) (sym (append-nil _)) ended))
    | inr stuck ↦ absurd (tries.free stuck)
  ],
)
tries_by run records task (Some step) written goes none lock = (
  λ is.
      let what = tries_what step lock is in
      record {
        free = λ stuck. let no = none.1 (inr stuck) in cc;
        by = what.0;
        next = subst (OnlyStep _ _ _ _) what.1 goes.only;
      },
  λ tries. ap (λ (s : Step). lock_of (Some s)) (only_one run records task step (LockTry lock tries.by) written goes.only tries.next),
)

-- a program has few tasks
pub few_tasks : (run : Run) (records : List Record) (world : World) → LeadsTo run records world → tasks_in world < 2 ^ 32
few_tasks run records world leads =
    let len = world.tasks.ok.0 in
    let all = leads.tasks.all in
    let few : length run.program.tasks ≤ 16 = leads.can.limits.tasks in
    omega (arith, len, all, few)

pub no_waits : (run : Run) (records : List Record) → AreWaitsBelow run records 0 []
no_waits run records = record {
  each = λ wait. ((λ there. let below = there.1 in absurd (omega (arith, below))), λ is. let below = is.0 in absurd (omega (arith, below)));
  order = λ i j d less below. absurd (omega (arith, below));
}

at_most : (own task : ℕ) → own < task + 1 → (own < task) ⊎ (own ≡ task)
at_most own task below = elim (eqb_tells own task) [
  | inl same ↦ inr same.1
  | inr apart ↦ let other : own ≢ task = apart.1 in inl (omega arith)
]

-- of a task that has no wait there is none
pub none_more : (run : Run) (records : List Record) (task : ℕ) (waits : List LockWait) → AreWaitsBelow run records task waits
    → ((wait : LockWait) → wait.task ≡ task → IsLockWait run records wait → ⊥)
    → AreWaitsBelow run records (task + 1) waits
none_more run records task waits are none = record {
  each = λ wait. (
    (λ there. let is = (are.each wait).0 there in let below = is.0 in (omega (arith, below), is.1)),
    (λ is. (are.each wait).1 (elim (at_most wait.task task is.0) [
      | inl below ↦ (below, is.1)
      | inr same ↦ absurd (none wait same is.1)
    ])),
  );
  order = are.order;
}

abbrev pub make : (task lock holder : ℕ) → LockWait
make task lock holder = record { task = task; lock = lock; holder = holder }

same_parts : (task lock holder : ℕ) (other : LockWait) → other.task ≡ task → lock ≡ other.lock → holder ≡ other.holder
    → other ≡ make task lock holder
same_parts task lock holder other a b c =
    ap (λ n. make n other.lock other.holder) a ∙ ap (λ n. make task n other.holder) (sym b) ∙ ap (λ n. make task lock n) (sym c)

same_some : (one other : ℕ) → Some one ≡ Some other → one ≡ other
same_some one other same = cc

-- its own wait is one more
pub one_more : (run : Run) (records : List Record) (task : ℕ) (waits : List LockWait) (wait : LockWait) → AreWaitsBelow run records task waits
    → wait.task ≡ task → IsLockWait run records wait
    → ((other : LockWait) → other.task ≡ task → IsLockWait run records other → other ≡ wait)
    → AreWaitsBelow run records (task + 1) (waits ++ wait ∷ [])
one_more run records task waits wait are own waits_so only = record {
  each = λ other. (
    (λ there. elim (Contains-push_cases waits wait other there) [
      | inl before ↦ let is = (are.each other).0 before in let below = is.0 in (omega (arith, below), is.1)
      | inr same ↦ subst (λ (w : LockWait). (w.task < task + 1) × IsLockWait run records w) same (omega (arith, own), waits_so)
    ]),
    (λ is. elim (at_most other.task task is.0) [
      | inl below ↦ Contains-append_left waits (wait ∷ []) other ((are.each other).1 (below, is.1))
      | inr same ↦ subst (Contains (waits ++ wait ∷ [])) (sym (only other same is.1)) (Contains-push waits wait)
    ]),
  );
  order = all_pairs_push (λ one other. one.task < other.task) waits wait are.order
      (λ k d lt. let before = (are.each (get_or waits k d)).0 (Contains-get_or waits k d lt) in
      let below = before.0 in omega (arith, below, own));
}

-- it tries to take no lock
pub no_try : (run : Run) (records : List Record) (task : ℕ) → ((lock : ℕ) → None ≡ Some lock ↔ TriesLock run records task lock)
    → (wait : LockWait) → wait.task ≡ task → IsLockWait run records wait → ⊥
no_try run records task tried wait own is =
    let no = (tried wait.lock).1 (subst (λ t. TriesLock run records t wait.lock) own is.tries) in cc

-- what is so of the lock that it tries, and of the tasks that hold that
abbrev pub Tried : Run → List Record → (task lock : ℕ) → Type 0
Tried run records task lock = (other : ℕ) → Some lock ≡ Some other ↔ TriesLock run records task other

abbrev pub Held : World → (lock : ℕ) → Option ℕ → Type 0
Held world lock holder =
    (task : ℕ) → holder ≡ Some task ↔ ((task < tasks_in world) × (slice_get world.board.locks lock ≡ Some (1 + task)))

holds : (run : Run) (records : List Record) (world : World) (task lock : ℕ) (holder : Option ℕ) → LeadsTo run records world
    → Tried run records task lock → Held world lock holder
    → (wait : LockWait) → wait.task ≡ task → IsLockWait run records wait → (lock ≡ wait.lock) × (holder ≡ Some wait.holder)
holds run records world task lock holder leads tried held wait own is =
    let same = same_some lock wait.lock ((tried wait.lock).1 (subst (λ t. TriesLock run records t wait.lock) own is.tries)) in
    let len = world.tasks.ok.0 in
    let all = leads.tasks.all in
    let there = is.there in
    let word : slice_get world.board.locks lock ≡ Some (1 + wait.holder) =
    ap (λ (words : Words). slice_get words.locks lock) leads.leaves
    ∙ ap (λ n. slice_get (words_after (first_words run) records).locks n) same ∙ is.held in
    (same, (held wait.holder).1 (omega (arith, there, len, all), word))

-- nobody holds the lock that it tries
pub not_held : (run : Run) (records : List Record) (world : World) (task lock : ℕ) → LeadsTo run records world
    → Tried run records task lock → Held world lock None
    → (wait : LockWait) → wait.task ≡ task → IsLockWait run records wait → ⊥
not_held run records world task lock leads tried held wait own is =
    let no = (holds run records world task lock None leads tried held wait own is).1 in cc

-- somebody does, and this is the wait
pub wait_is : (run : Run) (records : List Record) (world : World) (task lock holder : ℕ) → LeadsTo run records world
    → Tried run records task lock → Held world lock (Some holder) → IsLockWait run records (make task lock holder)
wait_is run records world task lock holder leads tried held =
    let len = world.tasks.ok.0 in
    let all = leads.tasks.all in
    let mine = (held holder).0 refl in
    let there = mine.0 in
    record {
      tries = (tried lock).0 refl;
      there = omega (arith, there, len, all);
      held = ap (λ (words : Words). slice_get words.locks lock) (sym leads.leaves) ∙ mine.1;
    }

pub only_wait : (run : Run) (records : List Record) (world : World) (task lock holder : ℕ) → LeadsTo run records world
    → Tried run records task lock → Held world lock (Some holder)
    → (other : LockWait) → other.task ≡ task → IsLockWait run records other → other ≡ make task lock holder
only_wait run records world task lock holder leads tried held other own is =
    let same = holds run records world task lock (Some holder) leads tried held other own is in
    same_parts task lock holder other own same.0 (same_some holder other.holder same.1)
