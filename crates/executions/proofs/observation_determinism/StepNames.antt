-- Each step that a task makes in the written order names a word of the run.
use Rattle.std.proofs.Common.{◌≡◌, ◌∙◌, ◌<◌, ◌+◌, ◌==◌, ◌⊎◌, ◌≢◌, ◌++◌, ◌∷◌, [], ℕ, zero, suc, Bool, true, false, List, All, IsSomeAnd, IsTrue}
use Rattle.std.proofs.Common.{ap, arith, cond, count_by, inl, inr, length, replicate, slice_get, subst, sym, take, if◌then◌else◌}
use Rattle.std.proofs.lemmas.Bool.Decides.{eqb_tells}
use Rattle.std.proofs.lemmas.List.{length-map, length-replicate}
use Rattle.std.proofs.lemmas.List.Sums.{sum_by-cons}
use Rattle.access_types.specs.declared.history.Happening.{Happening}
use Rattle.access_types.specs.declared.history.Happening.TheVariants as happenings
use Rattle.litmus_semantics.specs.Layout.{cells_at_first, cells_of}
use Rattle.litmus_semantics.specs.Task.{has_lock}
use Rattle.litmus_syntax.specs.Tree.{Block}
use Rattle.litmus_syntax.specs.declared.program.Variable.{Variable}
use Rattle.slot.specs.Pair.{unnamed}
use Rattle.slot_table.specs.StepLine.{Names}
use Rattle.slot_table.specs.Words.{Words, words_at_first}
use Rattle.slot_table.specs.declared.records.Record.{Record}
use Rattle.slot_table.specs.declared.step.Step.TheVariants.{LockStore}
use Rattle.program_order.specs.Standing.{IsLockAt, Setting, Standing, checks_of, counting, is_lock, lock_number}
use Rattle.program_order.specs.WrittenOrder.{WrittenOrder, at_first}
use Rattle.program_order.proofs.AccessLemmas.{access_does, access_quiet, counting_progress, makes_did}
use Rattle.program_order.proofs.HeldLocks.{AreQuiet, lock_last, marks_quiet, quiet_leaves}
use Rattle.program_order.proofs.Induction.{Kept, by_block}
use Rattle.executions.proofs.observation_determinism.CheckNames.{AreNamed, AreOfRun, WordsAreAboveOne, check_named, clock_named, close_named, done_step, lock_named}
use Rattle.executions.proofs.observation_determinism.CheckNames.{operates_named}

-- so many of these variables are locks
abbrev pub locks_in : List Variable → ℕ
locks_in variables = count_by (λ v. is_lock v.contents) variables

one_more : (v : Variable) (more : List Variable) → locks_in (v ∷ more) ≡ cond (is_lock v.contents) 1 0 + locks_in more
one_more v more = sum_by-cons (λ (w : Variable). cond (is_lock w.contents) 1 0) v more

-- the number of a lock is below how many there are
lock_below : (variables : List Variable) (number : ℕ) → IsSomeAnd (slice_get variables number) (λ v. IsTrue (is_lock v.contents))
    → locks_in (take number variables) < locks_in variables
lock_below [] number at = absurd at
lock_below (v ∷ more) zero at =
    let one : ◌≡◌ {A = ℕ} (cond {A = ℕ} (is_lock v.contents) 1 0) 1 = ap (λ (b : Bool). cond {A = ℕ} b 1 0) at in
    let all : locks_in (v ∷ more) ≡ cond (is_lock v.contents) 1 0 + locks_in more = one_more v more in
    let some : 0 < locks_in (v ∷ more) = omega (arith, all, one) in some
lock_below (v ∷ more) (suc number) at =
    let left : locks_in (v ∷ take number more) ≡ cond (is_lock v.contents) 1 0 + locks_in (take number more) = one_more v (take number more) in
    let right : locks_in (v ∷ more) ≡ cond (is_lock v.contents) 1 0 + locks_in more = one_more v more in
    let below : locks_in (take number more) < locks_in more = lock_below more number at in
    omega (arith, left, right, below)

module _ (s : Setting) where
  -- what the task has are locks
  abbrev AreLocks : List Happening → Type 0
  AreLocks did = (lock : ℕ) → IsTrue (has_lock lock did) → IsLockAt s lock

  locks_quiet : (did does : List Happening) → AreQuiet does → AreLocks did → AreLocks (did ++ does)
  locks_quiet did does quiet locks lock has = locks lock (sym (quiet_leaves lock did does quiet) ∙ has)

  locks_taken : (did : List Happening) (lock : ℕ) → IsLockAt s lock → AreLocks did → AreLocks (did ++ happenings.Lock lock ∷ [])
  locks_taken did lock is locks other has = by_number (eqb_tells lock other) (sym (lock_last other did (happenings.Lock lock)) ∙ has)
    where
      by_number : (((lock == other) ≡ true) × (lock ≡ other)) ⊎ (((lock == other) ≡ false) × (lock ≢ other))
          → IsTrue (if lock == other then true else has_lock other did) → IsLockAt s other
      by_number (inl same) had = subst (λ (l : ℕ). IsLockAt s l) same.1 is
      by_number (inr apart) had = locks other (sym (ap (λ (b : Bool). if b then true else has_lock other did) apart.0) ∙ had)

  locks_freed : (did : List Happening) (lock : ℕ) → AreLocks did → AreLocks (did ++ happenings.Unlock lock ∷ [])
  locks_freed did lock locks other has = by_number (eqb_tells lock other) (sym (lock_last other did (happenings.Unlock lock)) ∙ has)
    where
      by_number : (((lock == other) ≡ true) × (lock ≡ other)) ⊎ (((lock == other) ≡ false) × (lock ≢ other))
          → IsTrue (if lock == other then false else has_lock other did) → IsLockAt s other
      by_number (inl same) had =
          let no : false ≡ true = sym (ap (λ (b : Bool). if b then false else has_lock other did) same.0) ∙ had in cc
      by_number (inr apart) had = locks other (sym (ap (λ (b : Bool). if b then false else has_lock other did) apart.0) ∙ had)

  module _ (words : Words) (of_run : AreOfRun (checks_of s) words) (locks_fit : length words.locks ≡ locks_in s.text.variables) (above : WordsAreAboveOne) where
    lock_fits : (lock : ℕ) → IsLockAt s lock → lock_number s lock < length words.locks
    lock_fits lock is = let below : locks_in (take lock s.text.variables) < locks_in s.text.variables = lock_below s.text.variables lock is in
        omega (arith, below, locks_fit)

    abbrev Named : Standing → List Record → Standing → List Record → Type 0
    Named before records after rest =
        AreLocks before.progress.did → (AreNamed words rest → AreNamed words records) × AreLocks after.progress.did

    -- what a task computes takes no lock
    computes : (before : Standing) (records : List Record) (does : List Happening) → AreQuiet does → AreLocks before.progress.did
        → (AreNamed words records → AreNamed words records) × AreLocks (before.progress.did ++ does)
    computes before records does quiet locks = (λ p. p, locks_quiet before.progress.did does quiet locks)

    kept_named : Kept s Named
    kept_named = record {
      still = λ before records locks. (λ p. p, locks);
      joins = λ before between after records later rest p q locks.
          let first = p locks in
          let second = q first.1 in (λ named. first.0 (second.0 named), second.1);
      marked = λ ends_nothing count m before records locks.
          computes (counting ends_nothing before) records (replicate count (happenings.Mark m)) (marks_quiet count (happenings.Mark m) tt)
          (subst (λ p. AreLocks p.did) (sym (counting_progress ends_nothing before)) locks);
      lost = λ before records locks. (λ p. p, locks);
      assigned = λ before records register value locks. (λ p. p, locks);
      makes = λ a operation effect before records after rest h locks. (
        λ named. check_named (checks_of s) words of_run above before.scopes h.begun before.asked records h.passes h.checked h.check
            (operates_named (checks_of s) words of_run above a operation h.checked effect h.done h.operates
            (clock_named (checks_of s) words of_run above h.done rest h.ends named)),
        subst AreLocks (sym (makes_did s a operation effect before records after rest h))
            (locks_quiet before.progress.did (access_does a effect) (access_quiet a effect) locks),
      );
      locks = λ lock before records rest is takes locks. (
        λ named. lock_named (checks_of s) words s.text.task (lock_number s lock) records rest (lock_fits lock is) takes named,
        locks_taken before.progress.did lock is locks,
      );
      unlocks = λ lock before records rest has frees locks. (
        λ named. done_step (checks_of s) words s.text.task (LockStore (lock_number s lock)) _ records frees (lock_fits lock (locks lock has))
            (λ later over. subst (λ (r : List Record). AreNamed words r) over named),
        locks_freed before.progress.did lock locks,
      );
      scoped = λ a assertion begun before opened closing after records inside later rest opens inner closes locks.
          let began : AreLocks opened.progress.did =
          subst (λ (st : Standing). AreLocks st.progress.did) (sym opens.comes_to) (locks_quiet before.progress.did (happenings.Begin a ∷ []) (tt, tt) locks) in
          let between = inner began in (
            λ named. check_named (checks_of s) words of_run above before.scopes begun before.asked records opens.passes inside opens.check
                (between.0 (close_named (checks_of s) words of_run above begun closes.silenced closing.asked later closes.passes rest closes.close named)),
            subst (λ (st : Standing). AreLocks st.progress.did) (sym closes.comes_to)
                (locks_quiet closing.progress.did (happenings.End begun.access ∷ []) (tt, tt) between.1),
          );
    }

named_front : (words : Words) (records more : List Record) → AreNamed words (records ++ more) → AreNamed words records
named_front words [] more named = tt
named_front words (first ∷ later) more named = (named.0, named_front words later more named.1)

each_named : (words : Words) (records : List Record) → AreNamed words records → All (λ (made : Record). Names words made.step) records
each_named words [] named k d within = absurd (omega (arith, within))
each_named words (first ∷ later) named zero d within = named.0
each_named words (first ∷ later) named (suc k) d within = each_named words later named.1 k d
    (let below : suc k < suc (length later) = within in omega (arith, below))

-- the words of the setting's run, at first
abbrev pub words_of : Setting → Words
words_of s = words_at_first s.rules.slots (locks_in s.text.variables) (cells_at_first s.text.places s.text.variables)

pub all_named : WordsAreAboveOne → (s : Setting) (registers : ℕ) (body : Block) (records : List Record) → 0 < s.rules.slots
    → WrittenOrder s registers body records → All (λ (made : Record). Names (words_of s) made.step) records
all_named above s registers body records some written =
    let of_run : AreOfRun (checks_of s) (words_of s) = record {
      some_slot = some;
      watch_words = length-replicate (s.rules.slots + 2) 0;
      pair_words = length-replicate (s.rules.slots + 2) unnamed;
      cells = length-map (cells_of s.text.places s.text.variables) _;
    } in
    each_named (words_of s) records (named_front (words_of s) records written.more
    ((by_block s (Named s (words_of s) of_run (length-replicate (locks_in s.text.variables) 0) above)
    (kept_named s (words_of s) of_run (length-replicate (locks_in s.text.variables) 0) above) 0 body (at_first registers)
    (records ++ written.more) written.whole.end [] written.whole.steps (λ lock has. absurd (let no : false ≡ true = has in cc))).0 tt))
