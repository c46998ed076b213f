-- What is known of a wait for a lock, by its records.
use Rattle.std.proofs.Common.{◌≡◌, ◌↔◌, ◌∙◌, ◌+◌, ◌-◌, ◌^◌, ◌<◌, ◌≤◌, ◌++◌, ◌∷◌, [], ℕ, Bool, true, false, List, ap, append_assoc, arith, min, refl, subst, sym}
use Rattle.std.proofs.lemmas.List.{append-nil}
use Rattle.access_run.specs.memory_operation.Leads.{GoesOn}
use Rattle.access_run.specs.memory_operation.LockLeads.{IsStuckAtLock, LockCounts, LockIsTaken, LockLeads, LockLeft, LockSays, OnlyLockStep}
use Rattle.access_run.specs.memory_operation.Locks.{TakesLock}
use Rattle.access_run.specs.memory_operation.Waits.{failed_tries}
use Rattle.access_run.specs.declared.memory_operation.lock.LockWait.{LockWait}
use Rattle.setup_access.specs.Parts.{made}
use Rattle.setup_access.specs.Records.{OnFlag}
use Rattle.slot_table.specs.Answer.{IsFlag}
use Rattle.slot_table.specs.declared.records.Record.{Record}
use Rattle.slot_table.specs.declared.step.Answer.{Answer}
use Rattle.slot_table.specs.declared.step.Answer.TheVariants as answers
use Rattle.slot_table.specs.declared.step.Step.{Step}
use Rattle.slot_table.specs.declared.step.Step.TheVariants.{LockTry}
use Rattle.access_run.proofs.memory_operation.EffectLemmas.{failed_refused}

-- one of two
true_or : (b : Bool) → (b ≡ false → ⊥) → b ≡ true
true_or true h = refl
true_or false h = absurd (h refl)

flag_answer : (answer : Answer) (P : Bool → Type 0) → OnFlag answer P → IsFlag answer
flag_answer (answers.Word word) P h = h
flag_answer (answers.Flag flag) P h = tt
flag_answer (answers.Halves setter finder) P h = h
flag_answer answers.Done P h = h

-- what is left goes on with a try of the lock
try_goes : (task lock : ℕ) (later : List Record) → TakesLock task lock later [] → GoesOn task (LockTry lock task) later
try_goes task lock [] h = h
try_goes task lock (first ∷ later) h = (h.0, h.1, flag_answer first.answer _ h.2)

module _ (task lock : ℕ) (records : List Record) (wait : LockWait) (leads : LockLeads task lock records wait) where
  left_when : (later : List Record) (taken : Bool) → wait.is_taken ≡ taken
      → (TakesLock task lock (records ++ later) [] ↔ LockLeft task lock taken later)
  left_when later taken is = subst (λ b. TakesLock task lock (records ++ later) [] ↔ LockLeft task lock b later) is (leads.left later)

  pub taken_whole : wait.is_taken ≡ true → TakesLock task lock records []
  taken_whole is =
      subst (λ r. TakesLock task lock r []) (append-nil records) ((left_when [] true is).1 refl)

  pub not_taken : wait.is_taken ≡ false → TakesLock task lock records [] → ⊥
  not_taken is whole =
      (left_when [] false is).0 (subst (λ r. TakesLock task lock r []) (sym (append-nil records)) whole)

  pub taken_is : TakesLock task lock records [] → wait.is_taken ≡ true
  taken_is whole = true_or wait.is_taken (λ is. not_taken is whole)

  pub taken_alone : TakesLock task lock records [] → LockIsTaken task lock records
  taken_alone whole = record {
    takes = whole;
    ends = λ later more. sym ((left_when later true (taken_is whole)).0 more);
  }

  pub stuck_at_lock : (turns : ℕ) → wait.is_taken ≡ false → turns < 2 ^ 64
      → ((turns ≤ wait.tries) ↔ IsStuckAtLock turns task lock records)
  stuck_at_lock turns is below =
      let counted : wait.tries ≡ min (failed_tries records) (2 ^ 64 - 1) =
      subst (λ b. LockCounts b wait.tries records) is leads.counts in (
        λ h. (not_taken is, omega arith),
        λ h. let enough : turns ≤ failed_tries records = h.1 in omega arith,
      )

  pub not_stuck_taken : (turns : ℕ) → wait.is_taken ≡ true → IsStuckAtLock turns task lock records → ⊥
  not_stuck_taken turns is stuck = stuck.0 (taken_whole is)

  pub only_try : (step : Step) → LockSays wait step → OnlyLockStep task lock records step
  only_try step says = λ later more.
      let left = (left_when later false says.0).0 more in
      let step_is : step ≡ LockTry lock task =
      says.1 ∙ (ap (λ n. LockTry n wait.task) leads.of_lock ∙ ap (λ n. LockTry lock n) leads.of_task) in
      subst (λ s. GoesOn task s later) (sym step_is) (try_goes task lock later left)

-- nothing was made yet
pub lock_first : (task lock : ℕ) (wait : LockWait) → wait.task ≡ task → wait.lock ≡ lock → wait.tries ≡ 0
    → wait.is_taken ≡ false → LockLeads task lock [] wait
lock_first task lock wait task_is lock_is none is = record {
  of_task = task_is;
  of_lock = lock_is;
  left = λ later. rw is (λ h. h, λ h. h);
  counts = subst (λ b. LockCounts b wait.tries []) (sym is) none;
}

-- one try more
try_left : (task lock : ℕ) (accepted : Bool) (later : List Record)
    → (TakesLock task lock (made task (LockTry lock task) (answers.Flag accepted) ∷ later) [] ↔ LockLeft task lock accepted later)
try_left task lock true later = (λ h. h.2, λ h. (refl, refl, h))
try_left task lock false later = (λ h. h.2, λ h. (refl, refl, h))

pub lock_on : (task lock : ℕ) (records : List Record) (old new : LockWait) (step : Step) (answer : Answer) (accepted : Bool)
    → LockLeads task lock records old → LockSays old step → answer ≡ answers.Flag accepted
    → new.task ≡ old.task → new.lock ≡ old.lock → new.is_taken ≡ accepted
    → (accepted ≡ false → new.tries ≡ min (old.tries + 1) (2 ^ 64 - 1))
    → LockLeads task lock (records ++ made task step answer ∷ []) new
lock_on task lock records old new step answer accepted leads says answer_is task_is lock_is taken_is counted =
    let step_is : step ≡ LockTry lock task =
    says.1 ∙ (ap (λ n. LockTry n old.task) leads.of_lock ∙ ap (λ n. LockTry lock n) leads.of_task) in
    let before : old.tries ≡ min (failed_tries records) (2 ^ 64 - 1) =
    subst (λ b. LockCounts b old.tries records) says.0 leads.counts in
    rw (step_is, answer_is) (record {
      of_task = task_is ∙ leads.of_task;
      of_lock = lock_is ∙ leads.of_lock;
      left = λ later.
          let first = made task (LockTry lock task) (answers.Flag accepted) in
          let joined : (records ++ first ∷ []) ++ later ≡ records ++ (first ∷ later) = append_assoc records (first ∷ []) later in
          let all = left_when task lock records old leads (first ∷ later) false says.0 in
          let here = try_left task lock accepted later in
          rw (joined, taken_is) (λ h. here.0 (all.0 h), λ h. all.1 (here.1 h));
      counts = subst (λ b. LockCounts b new.tries (records ++ made task (LockTry lock task) (answers.Flag accepted) ∷ []))
          (sym taken_is) (counts_on accepted new.tries counted before);
    })
  where
    counts_on : (was_free : Bool) (tries : ℕ) → (was_free ≡ false → tries ≡ min (old.tries + 1) (2 ^ 64 - 1))
        → old.tries ≡ min (failed_tries records) (2 ^ 64 - 1)
        → LockCounts was_free tries (records ++ made task (LockTry lock task) (answers.Flag was_free) ∷ [])
    counts_on true tries h before = tt
    counts_on false tries h before =
        let now : tries ≡ min (old.tries + 1) (2 ^ 64 - 1) = h refl in
        rw (failed_refused records (made task (LockTry lock task) (answers.Flag false)) refl) (omega arith)
