-- In the history of an execution a lock is taken only when it is free, and given up only by its holder: its word tells.
use Rattle.std.proofs.Common.{◌≡◌, ◌≢◌, ◌∙◌, ◌⊎◌, ◌<◌, ◌+◌, ◌==◌, ◌∷◌, ◌++◌, [], inl, inr, ℕ, zero, suc, Bool, true, false, IfSome, List, Option}
use Rattle.std.proofs.Common.{None, Some, ap, append_assoc, arith, fold, length, refl, replicate, slice_get, subst, sym, take, if◌then◌else◌}
use Rattle.std.specs.Prelude.{slice_index, slice_set}
use Rattle.std.proofs.lemmas.Bool.{eq-eqb, ne_eqb}
use Rattle.std.proofs.lemmas.Bool.Decides.{eqb_tells}
use Rattle.std.proofs.lemmas.List.{append-nil, get_or-set_other, get_or-set_same, set-get_or}
use Rattle.std.proofs.lemmas.List.Sums.{fold-append}
use Rattle.access_types.specs.Access.{Access}
use Rattle.access_types.specs.History.{History, happenings_of}
use Rattle.access_types.specs.declared.history.Happening.{Happening}
use Rattle.access_types.specs.declared.history.Happening.TheVariants as happenings
use Rattle.litmus_semantics.specs.RunOfProgram.{holder, holder_after}
use Rattle.litmus_semantics.specs.Task.{has_after, has_lock}
use Rattle.slot_table.specs.Records.{Legal, words_after}
use Rattle.slot_table.specs.StepLine.{Names, step_line}
use Rattle.slot_table.specs.Words.{Words}
use Rattle.slot_table.specs.declared.records.Record.{Record}
use Rattle.slot_table.specs.declared.step.Answer.{Answer}
use Rattle.slot_table.specs.declared.step.Answer.TheVariants as answers
use Rattle.slot_table.specs.declared.step.Step.{Step}
use Rattle.slot_table.specs.declared.step.Step.TheVariants.{CellExchange, CellLoad, Clear, Clock, Consume, Insert, Load, LockStore, LockTry, Name, PairLoad, Remove, Tell, TryConsume}
use Rattle.slot_table.proofs.Moves.{some_same}
use Rattle.program_order.specs.Standing.{IsLockAt, Setting, lock_number}
use Rattle.program_order.specs.TaskObserved.{did_by, did_next}
use Rattle.program_order.proofs.HeldLocks.{AreQuiet, own_number, quiet_leaves}
use Rattle.executions.specs.execution.Run.{Run, first_words, locks_of, task_setting}
use Rattle.executions.specs.execution.Execution.{Execution}
use Rattle.executions.specs.execution.Observed.{first_moments, history_by, history_of, made_by, moments_of}
use Rattle.executions.proofs.execution.Histories.{of_both, of_task}
use Rattle.soundness.specs.Events.{AreMarks, EachDoesItsEvent, IsEvent, ReadsAtMost, Writes}
use Rattle.soundness.proofs.Watches.{is_below}

-- a lock is taken or given up as it may be, by whoever holds which
abbrev pub LockNow : (ℕ → Option ℕ) → ℕ → Happening → Type 0
LockNow held task (happenings.Lock lock) = held lock ≡ None
LockNow held task (happenings.Unlock lock) = held lock ≡ Some task
LockNow held task happening = Unit {0}

abbrev pub after_held : (ℕ → Option ℕ) → History → ℕ → Option ℕ
after_held held history lock = fold (λ before moment. holder_after lock before moment.task moment.happening) (held lock) history

abbrev pub HistoryLocks : (ℕ → Option ℕ) → History → Type 0
HistoryLocks held [] = Unit {0}
HistoryLocks held (moment ∷ history) =
    LockNow held moment.task moment.happening × HistoryLocks (λ lock. holder_after lock (held lock) moment.task moment.happening) history

locks_both : (held : ℕ → Option ℕ) (first second : History) → HistoryLocks held first → HistoryLocks (after_held held first) second → HistoryLocks held (first ++ second)
locks_both held [] second one two = two
locks_both held (moment ∷ first) second one two =
    (one.0, locks_both (λ lock. holder_after lock (held lock) moment.task moment.happening) first second one.1 two)

pub locks_at : (held : ℕ → Option ℕ) (history : History) → HistoryLocks held history → (k : ℕ)
    → IfSome (slice_get history k) (λ moment. LockNow (after_held held (take k history)) moment.task moment.happening)
locks_at held [] all k = tt
locks_at held (moment ∷ history) all zero = all.0
locks_at held (moment ∷ history) all (suc k) = locks_at (λ lock. holder_after lock (held lock) moment.task moment.happening) history all.1 k

-- what is quiet touches no lock
quiet_locks : (held : ℕ → Option ℕ) (task : ℕ) (did : List Happening) → AreQuiet did → HistoryLocks held (moments_of task did)
quiet_locks held task [] quiet = tt
quiet_locks held task (happenings.Begin a ∷ did) quiet = (tt, quiet_locks held task did quiet.1)
quiet_locks held task (happenings.End a ∷ did) quiet = (tt, quiet_locks held task did quiet.1)
quiet_locks held task (happenings.Read bytes value ∷ did) quiet = (tt, quiet_locks held task did quiet.1)
quiet_locks held task (happenings.Write bytes value ∷ did) quiet = (tt, quiet_locks held task did quiet.1)
quiet_locks held task (happenings.Lock lock ∷ did) quiet = absurd quiet.0
quiet_locks held task (happenings.Unlock lock ∷ did) quiet = absurd quiet.0
quiet_locks held task (happenings.Mark mark ∷ did) quiet = (tt, quiet_locks held task did quiet.1)

quiet_held : (held : ℕ → Option ℕ) (task lock : ℕ) (did : List Happening) → AreQuiet did → after_held held (moments_of task did) lock ≡ held lock
quiet_held held task lock [] quiet = refl
quiet_held held task lock (happenings.Begin a ∷ did) quiet = quiet_held held task lock did quiet.1
quiet_held held task lock (happenings.End a ∷ did) quiet = quiet_held held task lock did quiet.1
quiet_held held task lock (happenings.Read bytes value ∷ did) quiet = quiet_held held task lock did quiet.1
quiet_held held task lock (happenings.Write bytes value ∷ did) quiet = quiet_held held task lock did quiet.1
quiet_held held task lock (happenings.Lock other ∷ did) quiet = absurd quiet.0
quiet_held held task lock (happenings.Unlock other ∷ did) quiet = absurd quiet.0
quiet_held held task lock (happenings.Mark mark ∷ did) quiet = quiet_held held task lock did quiet.1

quiet_marks : (marks : List Happening) → AreMarks marks → AreQuiet marks
quiet_marks [] are = tt
quiet_marks (happenings.Mark mark ∷ marks) are = (tt, quiet_marks marks are.1)
quiet_marks (happenings.Begin a ∷ marks) are = absurd are.0
quiet_marks (happenings.End a ∷ marks) are = absurd are.0
quiet_marks (happenings.Read bytes value ∷ marks) are = absurd are.0
quiet_marks (happenings.Write bytes value ∷ marks) are = absurd are.0
quiet_marks (happenings.Lock lock ∷ marks) are = absurd are.0
quiet_marks (happenings.Unlock lock ∷ marks) are = absurd are.0

holder_both : (lock : ℕ) (first second : History) → holder lock (first ++ second) ≡ after_held (λ l. holder l first) second lock
holder_both lock first second = fold-append (λ before moment. holder_after lock before moment.task moment.happening) None first second

-- what of a history is a task's
of_own : (task : ℕ) (did : List Happening) → happenings_of task (moments_of task did) ≡ did
of_own task [] = refl
of_own task (first ∷ did) = rw (eq-eqb task task refl) (ap (λ (d : List Happening). first ∷ d) (of_own task did))

of_other : (task other : ℕ) (did : List Happening) → other ≢ task → happenings_of task (moments_of other did) ≡ []
of_other task other [] differs = refl
of_other task other (first ∷ did) differs = rw (ne_eqb other task differs) (of_other task other did differs)

own_more : (task : ℕ) (history : History) (did : List Happening) → happenings_of task (history ++ moments_of task did) ≡ happenings_of task history ++ did
own_more task history did = of_both task history (moments_of task did) ∙ ap (λ (d : List Happening). happenings_of task history ++ d) (of_own task did)

other_more : (task other : ℕ) (history : History) (did : List Happening) → other ≢ task → happenings_of task (history ++ moments_of other did) ≡ happenings_of task history
other_more task other history did differs =
    of_both task history (moments_of other did)
    ∙ (ap (λ (d : List Happening). happenings_of task history ++ d) (of_other task other did differs) ∙ append-nil (happenings_of task history))

-- the word of a lock by its holder
abbrev held_word : Option ℕ → ℕ
held_word None = 0
held_word (Some task) = 1 + task

free_word : (held : Option ℕ) → held_word held ≡ 0 → held ≡ None
free_word None is = refl
free_word (Some task) is = absurd (omega (arith, is))

module _ (run : Run) where
  abbrev setting : Setting
  setting = task_setting run 0

  -- the words of locks tell their holders, and a task that has a lock holds it
  pub record LocksStand (history : History) (locks : List ℕ) : Type 0 where
    pub words : (lock : ℕ) → IsLockAt setting lock → slice_index locks (lock_number setting lock) ≡ held_word (holder lock history)
    pub has : (task lock : ℕ) → has_lock lock (happenings_of task history) ≡ true → holder lock history ≡ Some task
    pub are_locks : (task lock : ℕ) → holder lock history ≡ Some task → IsLockAt setting lock

  stand_quiet : (history : History) (locks : List ℕ) (task : ℕ) (did : List Happening) → AreQuiet did → LocksStand history locks → LocksStand (history ++ moments_of task did) locks
  stand_quiet history locks task did quiet stand = record { words = words; has = has; are_locks = are_locks } where
    same : (lock : ℕ) → holder lock (history ++ moments_of task did) ≡ holder lock history
    same lock = holder_both lock history (moments_of task did) ∙ quiet_held (λ l. holder l history) task lock did quiet

    words : (lock : ℕ) → IsLockAt setting lock → slice_index locks (lock_number setting lock) ≡ held_word (holder lock (history ++ moments_of task did))
    words lock is = stand.words lock is ∙ ap held_word (sym (same lock))

    still : (other lock : ℕ) → has_lock lock (happenings_of other (history ++ moments_of task did)) ≡ has_lock lock (happenings_of other history)
    still other lock = elim (eqb_tells task other) [
      | inl p ↦
          subst (λ t. has_lock lock (happenings_of t (history ++ moments_of task did)) ≡ has_lock lock (happenings_of t history)) p.1
          (ap (λ (d : List Happening). has_lock lock d) (own_more task history did) ∙ quiet_leaves lock (happenings_of task history) did quiet)
      | inr q ↦ ap (λ (d : List Happening). has_lock lock d) (other_more other task history did q.1)
    ]

    has : (other lock : ℕ) → has_lock lock (happenings_of other (history ++ moments_of task did)) ≡ true → holder lock (history ++ moments_of task did) ≡ Some other
    has other lock is = same lock ∙ stand.has other lock (sym (still other lock) ∙ is)

    are_locks : (other lock : ℕ) → holder lock (history ++ moments_of task did) ≡ Some other → IsLockAt setting lock
    are_locks other lock is = stand.are_locks other lock (sym (same lock) ∙ is)

  -- a lock changes hands
  module _ (history : History) (locks : List ℕ) (task variable : ℕ) (x : Happening) (now : Option ℕ) (has_now : Bool) (stand : LocksStand history locks)
      (is_lock : IsLockAt setting variable) (there : lock_number setting variable < length locks)
      (takes : (lock : ℕ) (before : Option ℕ) → holder_after lock before task x ≡ (if variable == lock then now else before))
      (gives : (lock : ℕ) (before : Bool) → has_after lock before x ≡ (if variable == lock then has_now else before))
      (now_is : (other : ℕ) → now ≡ Some other → other ≡ task)
      (has_is : has_now ≡ true → now ≡ Some task)
      (none_else : (other : ℕ) → other ≢ task → holder variable history ≢ Some other) where
    abbrev with_it : History
    with_it = history ++ moments_of task (x ∷ [])

    held_here : holder variable with_it ≡ now
    held_here = holder_both variable history (moments_of task (x ∷ [])) ∙ (takes variable (holder variable history) ∙ rw (eq-eqb variable variable refl) refl)

    held_there : (lock : ℕ) → (variable == lock) ≡ false → holder lock with_it ≡ holder lock history
    held_there lock apart = holder_both lock history (moments_of task (x ∷ [])) ∙ (takes lock (holder lock history) ∙ rw apart refl)

    lock_last : (lock : ℕ) (did : List Happening) → has_lock lock (did ++ x ∷ []) ≡ has_after lock (has_lock lock did) x
    lock_last lock did = fold-append (has_after lock) false did (x ∷ [])

    words : (lock : ℕ) → IsLockAt setting lock → slice_index (slice_set locks (lock_number setting variable) (held_word now)) (lock_number setting lock) ≡ held_word (holder lock with_it)
    words lock is = elim (eqb_tells variable lock) [
      | inl p ↦
          subst (λ l. slice_index (slice_set locks (lock_number setting variable) (held_word now)) (lock_number setting l) ≡ held_word (holder l with_it)) p.1
          (get_or-set_same locks (lock_number setting variable) (held_word now) 0 there ∙ ap held_word (sym held_here))
      | inr q ↦
          get_or-set_other locks (lock_number setting variable) (lock_number setting lock) (held_word now) 0
          (λ same. q.1 (sym (own_number run.program.variables lock variable is is_lock same)))
          ∙ (stand.words lock is ∙ ap held_word (sym (held_there lock q.0)))
    ]

    own_has : (lock : ℕ) → has_lock lock (happenings_of task with_it) ≡ (if variable == lock then has_now else has_lock lock (happenings_of task history))
    own_has lock =
        ap (λ (d : List Happening). has_lock lock d) (own_more task history (x ∷ []))
        ∙ (lock_last lock (happenings_of task history) ∙ gives lock (has_lock lock (happenings_of task history)))

    has_own_now : (lock : ℕ) → has_lock lock (happenings_of task with_it) ≡ true → holder lock with_it ≡ Some task
    has_own_now lock is = elim (eqb_tells variable lock) [
      | inl p ↦
          let mine : has_now ≡ true = sym (ap (λ b. if b then has_now else has_lock lock (happenings_of task history)) p.0) ∙ (sym (own_has lock) ∙ is) in
          subst (λ l. holder l with_it ≡ Some task) p.1 (held_here ∙ has_is mine)
      | inr q ↦
          let before : has_lock lock (happenings_of task history) ≡ true =
          sym (ap (λ b. if b then has_now else has_lock lock (happenings_of task history)) q.0) ∙ (sym (own_has lock) ∙ is) in
          held_there lock q.0 ∙ stand.has task lock before
    ]

    has_other_now : (other lock : ℕ) → task ≢ other → has_lock lock (happenings_of other with_it) ≡ true → holder lock with_it ≡ Some other
    has_other_now other lock differs is =
        let before : holder lock history ≡ Some other =
        stand.has other lock (sym (ap (λ (d : List Happening). has_lock lock d) (other_more other task history (x ∷ []) differs)) ∙ is) in
        elim (eqb_tells variable lock) [
          | inl p ↦ absurd (none_else other (λ same. differs (sym same)) (subst (λ l. holder l history ≡ Some other) (sym p.1) before))
          | inr q ↦ held_there lock q.0 ∙ before
        ]

    has : (other lock : ℕ) → has_lock lock (happenings_of other with_it) ≡ true → holder lock with_it ≡ Some other
    has other lock is = elim (eqb_tells task other) [
      | inl p ↦
          subst (λ t. holder lock with_it ≡ Some t) p.1
          (has_own_now lock (subst (λ t. has_lock lock (happenings_of t with_it) ≡ true) (sym p.1) is))
      | inr q ↦ has_other_now other lock q.1 is
    ]

    are_locks : (other lock : ℕ) → holder lock with_it ≡ Some other → IsLockAt setting lock
    are_locks other lock is = elim (eqb_tells variable lock) [
      | inl p ↦ subst (λ l. IsLockAt setting l) p.1 is_lock
      | inr q ↦ stand.are_locks other lock (sym (held_there lock q.0) ∙ is)
    ]

    changes_hands : LocksStand with_it (slice_set locks (lock_number setting variable) (held_word now))
    changes_hands = record { words = words; has = has; are_locks = are_locks }

  taken : (history : History) (locks : List ℕ) (task variable : ℕ) → LocksStand history locks → IsLockAt setting variable → lock_number setting variable < length locks
      → holder variable history ≡ None → LocksStand (history ++ moments_of task (happenings.Lock variable ∷ [])) (slice_set locks (lock_number setting variable) (1 + task))
  taken history locks task variable stand is_lock there free =
      changes_hands history locks task variable (happenings.Lock variable) (Some task) true stand is_lock there (λ lock before. refl) (λ lock before. refl)
      (λ other is. sym (some_same is)) (λ yes. refl) (λ other differs is. let never : None ≡ Some other = sym free ∙ is in cc)

  given_up : (history : History) (locks : List ℕ) (task variable : ℕ) → LocksStand history locks → IsLockAt setting variable → lock_number setting variable < length locks
      → holder variable history ≡ Some task → LocksStand (history ++ moments_of task (happenings.Unlock variable ∷ [])) (slice_set locks (lock_number setting variable) 0)
  given_up history locks task variable stand is_lock there mine =
      changes_hands history locks task variable (happenings.Unlock variable) None false stand is_lock there (λ lock before. refl) (λ lock before. refl)
      (λ other is. absurd (let never : None ≡ Some other = is in cc)) (λ yes. absurd (let never : false ≡ true = yes in cc))
      (λ other differs is. differs (some_same (sym is ∙ mine)))

  -- one record
  module _ (task : ℕ) (before : List Happening) (words : Words) (history : History) (own : happenings_of task history ≡ before) (stand : LocksStand history words.locks) where
    abbrev Goes : List Happening → List ℕ → Type 0
    Goes did locks = HistoryLocks (λ lock. holder lock history) (moments_of task did) × LocksStand (history ++ moments_of task did) locks

    quietly : (did : List Happening) → AreQuiet did → Goes did words.locks
    quietly did quiet = (quiet_locks (λ lock. holder lock history) task did quiet, stand_quiet history words.locks task did quiet stand)

    nothing : (did : List Happening) → did ≡ [] → Goes did words.locks
    nothing did is = quietly did (subst (λ (d : List Happening). AreQuiet d) (sym is) tt)

    read : (cell : ℕ) (answer : Answer) (did : List Happening) → ReadsAtMost (task_setting run task) cell answer did → Goes did words.locks
    read cell answer did (inl none) = nothing did none
    read cell answer did (inr reads) = quietly did (subst (λ (d : List Happening). AreQuiet d) (sym reads.is) (tt, tt))

    wrote : (cell old new : ℕ) (did : List Happening) → Writes (task_setting run task) cell old new did → Goes did words.locks
    wrote cell old new did writes = elim writes.is [
      | inl alone ↦ quietly did (subst (λ (d : List Happening). AreQuiet d) (sym alone) (tt, tt))
      | inr both ↦ quietly did (subst (λ (d : List Happening). AreQuiet d) (sym both) (tt, (tt, tt)))
    ]

    at_clock : (did : List Happening) → (a : Access) × ((did ≡ happenings.Begin a ∷ []) ⊎ (did ≡ happenings.End a ∷ [])) → Goes did words.locks
    at_clock did (a, inl begins) = quietly did (subst (λ (d : List Happening). AreQuiet d) (sym begins) (tt, tt))
    at_clock did (a, inr ends) = quietly did (subst (λ (d : List Happening). AreQuiet d) (sym ends) (tt, tt))

    exchanged : (cell expected new : ℕ) (answer : Answer) (did : List Happening) → IsEvent (task_setting run task) before (CellExchange cell expected new) answer did
        → Goes did words.locks
    exchanged cell expected new (answers.Flag true) did event = wrote cell expected new did event
    exchanged cell expected new (answers.Flag false) did event = read cell (answers.Flag false) did event
    exchanged cell expected new (answers.Word word) did event = read cell (answers.Word word) did event
    exchanged cell expected new (answers.Halves setter finder) did event = read cell (answers.Halves setter finder) did event
    exchanged cell expected new answers.Done did event = read cell answers.Done did event

    abbrev word_at : ℕ → ℕ
    word_at lock = slice_index words.locks lock

    -- a try that found the word 0 takes the lock, and one that didn't leaves the words
    tried : (free : Bool) (lock by : ℕ) (answer : Answer) (did : List Happening) → (word_at lock == 0) ≡ free → (word_at lock ≡ 0) ⊎ (free ≡ false) → lock < length words.locks
        → answer ≡ answers.Flag free → IsEvent (task_setting run task) before (LockTry lock by) answer did
        → Goes did (slice_set words.locks lock (if free then 1 + by else word_at lock))
    tried true lock by (answers.Flag true) did is (inl empty) there answered event =
        let variable : ℕ = event.0 in
        let number : lock ≡ lock_number setting variable = event.3 in
        let mine : by ≡ task = event.1 in
        let free_now : holder variable history ≡ None =
        free_word (holder variable history) (sym (stand.words variable event.2) ∙ (ap (λ n. word_at n) (sym number) ∙ empty)) in
        let stands = taken history words.locks task variable stand event.2 (subst (λ n. n < length words.locks) number there) free_now in
        subst (λ (d : List Happening). Goes d (slice_set words.locks lock (1 + by))) (sym event.4) (
          (free_now, tt),
          subst (λ n. LocksStand (history ++ moments_of task (happenings.Lock variable ∷ [])) (slice_set words.locks n (1 + by))) (sym number)
              (subst (λ n. LocksStand (history ++ moments_of task (happenings.Lock variable ∷ [])) (slice_set words.locks (lock_number setting variable) (1 + n))) (sym mine) stands),
        )
    tried true lock by (answers.Flag true) did is (inr never) there answered event = absurd (cc)
    tried true lock by (answers.Flag false) did is same there answered event = absurd (cc)
    tried true lock by (answers.Word word) did is same there answered event = absurd (cc)
    tried true lock by (answers.Halves setter finder) did is same there answered event = absurd (cc)
    tried true lock by answers.Done did is same there answered event = absurd (cc)
    tried false lock by (answers.Flag true) did is same there answered event = absurd (cc)
    tried false lock by (answers.Flag false) did is same there answered event =
        subst (λ (l : List ℕ). Goes did l) (sym (set-get_or words.locks lock 0)) (nothing did event)
    tried false lock by (answers.Word word) did is same there answered event = absurd (cc)
    tried false lock by (answers.Halves setter finder) did is same there answered event = absurd (cc)
    tried false lock by answers.Done did is same there answered event = absurd (cc)

    try_line : (lock by : ℕ) (answer : Answer) (did : List Happening) → lock < length words.locks → answer ≡ (step_line words (LockTry lock by)).answer
        → IsEvent (task_setting run task) before (LockTry lock by) answer did → Goes did (step_line words (LockTry lock by)).after.locks
    try_line lock by answer did there answered event =
        let told : (word_at lock ≡ 0) ⊎ ((word_at lock == 0) ≡ false) = elim (eqb_tells (word_at lock) 0) [ inl p ↦ inl p.1 | inr q ↦ inr q.0 ] in
        tried (word_at lock == 0) lock by answer did refl told there answered event

    stored : (lock : ℕ) (answer : Answer) (did : List Happening) → lock < length words.locks → IsEvent (task_setting run task) before (LockStore lock) answer did
        → Goes did (slice_set words.locks lock 0)
    stored lock answer did there event =
        let variable : ℕ = event.0 in
        let number : lock ≡ lock_number setting variable = event.2 in
        let mine : holder variable history ≡ Some task =
        stand.has task variable (ap (λ (d : List Happening). has_lock variable d) own ∙ event.1) in
        let stands = given_up history words.locks task variable stand (stand.are_locks task variable mine) (subst (λ n. n < length words.locks) number there) mine in
        subst (λ (d : List Happening). Goes d (slice_set words.locks lock 0)) (sym event.3)
        ((mine, tt), subst (λ n. LocksStand (history ++ moments_of task (happenings.Unlock variable ∷ [])) (slice_set words.locks n 0)) (sym number) stands)

    one_record : (step : Step) (answer : Answer) (did : List Happening) → Names words step → answer ≡ (step_line words step).answer
        → IsEvent (task_setting run task) before step answer did → Goes did (step_line words step).after.locks
    one_record (Load index) answer did names answered event = nothing did event
    one_record (Insert index word) answer did names answered event = nothing did event
    one_record (TryConsume index word) answer did names answered event = nothing did event
    one_record (Consume index) answer did names answered event = nothing did event
    one_record (Remove index) answer did names answered event = nothing did event
    one_record (PairLoad index) answer did names answered event = nothing did event
    one_record (Name index ticket) answer did names answered event = nothing did event
    one_record (Tell index ticket) answer did names answered event = nothing did event
    one_record (Clear index) answer did names answered event = nothing did event
    one_record (CellLoad cell) answer did names answered event = read cell answer did event
    one_record (CellExchange cell expected new) answer did names answered event = exchanged cell expected new answer did event
    one_record (LockTry lock by) answer did names answered event = try_line lock by answer did names answered event
    one_record (LockStore lock) answer did names answered event = stored lock answer did names event
    one_record Clock answer did names answered event = at_clock did event

  zero_at : (n i : ℕ) → slice_index (replicate n 0) i ≡ 0
  zero_at zero i = refl
  zero_at (suc n) zero = refl
  zero_at (suc n) (suc i) = zero_at n i

  at_first : LocksStand [] (first_words run).locks
  at_first = record {
    words = λ lock is. zero_at (locks_of run) (lock_number setting lock);
    has = λ task lock is. absurd (let never : false ≡ true = is in cc);
    are_locks = λ task lock is. absurd (let never : None ≡ Some task = is in cc);
  }

module _ (run : Run) (records : List Record) (list : Execution run records) (first : (task : ℕ) → AreMarks (did_by (list.tasks task) 0)) where
  abbrev Both : History → List ℕ → Type 0
  Both history locks = HistoryLocks (λ lock. None) history × LocksStand run history locks

  before_steps : (tasks : ℕ) → Both (first_moments list tasks) (first_words run).locks
  before_steps zero = (tt, at_first run)
  before_steps (suc task) =
      let it = before_steps task in
      let did : List Happening = did_by (list.tasks task) 0 in
      let quiet : AreQuiet did = quiet_marks did (first task) in (
        locks_both (λ lock. None) (first_moments list task) (moments_of task did) it.0
            (quiet_locks (after_held (λ lock. None) (first_moments list task)) task did quiet),
        stand_quiet run (first_moments list task) (first_words run).locks task did quiet it.1,
      )

  moments_both : (task : ℕ) (one two : List Happening) → moments_of task (one ++ two) ≡ moments_of task one ++ moments_of task two
  moments_both task [] two = refl
  moments_both task (x ∷ one) two = ap (λ (h : History). record { task = task; happening = x } ∷ h) (moments_both task one two)

  locked_by : (later earlier : List Record) → records ≡ later ++ earlier → EachDoesItsEvent list earlier → Legal (first_words run) earlier
      → Both (history_by list earlier) (words_after (first_words run) earlier).locks
  locked_by later [] is events legal = before_steps (length run.program.tasks)
  locked_by later (latest ∷ earlier) is events legal =
      let task : ℕ = latest.task in
      let history : History = history_by list earlier in
      let before : List Happening = did_by (list.tasks task) (made_by task earlier) in
      let words : Words = words_after (first_words run) earlier in
      let rest = locked_by (later ++ latest ∷ []) earlier (is ∙ sym (append_assoc later (latest ∷ []) earlier)) events.0 legal.0 in
      let it = events.1 in
      let own : happenings_of task history ≡ before = of_task run records list task (is_below run records list latest earlier later is) earlier in
      let one = one_record run task before words history own rest.1 latest.step latest.answer it.event legal.1.names legal.1.answer it.is_event in
      let quiet : AreQuiet it.marks = quiet_marks it.marks it.are_marks in
      let after : History = history ++ moments_of task it.event in
      let parts : moments_of task (did_next (list.tasks task) (made_by task earlier)) ≡ moments_of task it.event ++ moments_of task it.marks =
      ap (λ (d : List Happening). moments_of task d) it.all ∙ moments_both task it.event it.marks in
      let whole : history ++ moments_of task (did_next (list.tasks task) (made_by task earlier)) ≡ after ++ moments_of task it.marks =
      ap (λ (h : History). history ++ h) parts ∙ sym (append_assoc history (moments_of task it.event) (moments_of task it.marks)) in
      let locks : List ℕ = (step_line words latest.step).after.locks in
      subst (λ (h : History). Both h locks) (sym whole) (
        locks_both (λ lock. None) after (moments_of task it.marks)
            (locks_both (λ lock. None) history (moments_of task it.event) rest.0 one.0)
            (quiet_locks (after_held (λ lock. None) after) task it.marks quiet),
        stand_quiet run after locks task it.marks quiet one.1,
      )

  pub all_locked : EachDoesItsEvent list records → HistoryLocks (λ lock. None) (history_of list)
  all_locked events = (locked_by [] records refl events list.legal).0
