-- What a task holds by its records is what it holds by what it did.
use Rattle.std.proofs.Common.{◌≡◌, ◌≢◌, ◌⊎◌, ◌∙◌, ◌+◌, ◌++◌, ◌==◌, ℕ, zero, suc, Bool, true, false, List, [], ◌∷◌}
use Rattle.std.proofs.Common.{IsSomeAnd, IsTrue, ap, arith, cond, count_by, fold, inl, inr, refl, replicate, slice_get, subst, sym, take, if◌then◌else◌}
use Rattle.std.proofs.lemmas.Bool.{eq-eqb}
use Rattle.std.proofs.lemmas.Bool.Decides.{eqb_tells}
use Rattle.std.proofs.lemmas.List.Sums.{fold-append, sum_by-cons}
use Rattle.access_types.specs.declared.history.Happening.{Happening}
use Rattle.access_types.specs.declared.history.Happening.TheVariants as happenings
use Rattle.litmus_semantics.specs.Task.{has_after, has_lock}
use Rattle.litmus_syntax.specs.declared.program.Variable.{Variable}
use Rattle.setup_access.proofs.LocksLemmas.{TouchesNoLock}
use Rattle.slot_table.specs.Discipline.{holds, holds_after}
use Rattle.slot_table.specs.declared.records.Record.{Record}
use Rattle.slot_table.specs.declared.step.Answer.{Answer}
use Rattle.slot_table.specs.declared.step.Answer.TheVariants as answers
use Rattle.slot_table.specs.declared.step.Step.{Step}
use Rattle.slot_table.specs.declared.step.Step.TheVariants.{CellExchange, CellLoad, Clear, Clock, Consume, Insert, Load, LockStore, LockTry, Name, PairLoad, Remove, Tell, TryConsume}
use Rattle.program_order.specs.Standing.{IsLockAt, Setting, is_lock, lock_number}

-- none of these takes or frees a lock
abbrev pub IsQuiet : Happening → Type 0
IsQuiet (happenings.Begin a) = Unit {0}
IsQuiet (happenings.End a) = Unit {0}
IsQuiet (happenings.Read bytes value) = Unit {0}
IsQuiet (happenings.Write bytes value) = Unit {0}
IsQuiet (happenings.Lock lock) = ⊥
IsQuiet (happenings.Unlock lock) = ⊥
IsQuiet (happenings.Mark m) = Unit {0}

abbrev pub AreQuiet : List Happening → Type 0
AreQuiet [] = Unit {0}
AreQuiet (happening ∷ later) = IsQuiet happening × AreQuiet later

quiet_one : (lock : ℕ) (before : Bool) (happening : Happening) → IsQuiet happening → has_after lock before happening ≡ before
quiet_one lock before (happenings.Begin a) quiet = refl
quiet_one lock before (happenings.End a) quiet = refl
quiet_one lock before (happenings.Read bytes value) quiet = refl
quiet_one lock before (happenings.Write bytes value) quiet = refl
quiet_one lock before (happenings.Lock l) quiet = absurd quiet
quiet_one lock before (happenings.Unlock l) quiet = absurd quiet
quiet_one lock before (happenings.Mark m) quiet = refl

quiet_all : (lock : ℕ) (before : Bool) (does : List Happening) → AreQuiet does → fold (has_after lock) before does ≡ before
quiet_all lock before [] quiet = refl
quiet_all lock before (happening ∷ later) quiet =
    ap (λ (b : Bool). fold (has_after lock) b later) (quiet_one lock before happening quiet.0) ∙ quiet_all lock before later quiet.1

-- they leave the locks that the task has
pub quiet_leaves : (lock : ℕ) (did does : List Happening) → AreQuiet does → has_lock lock (did ++ does) ≡ has_lock lock did
quiet_leaves lock did does quiet = fold-append (has_after lock) false did does ∙ quiet_all lock (has_lock lock did) does quiet

pub marks_quiet : (count : ℕ) (happening : Happening) → IsQuiet happening → AreQuiet (replicate count happening)
marks_quiet zero happening quiet = tt
marks_quiet (suc count) happening quiet = (quiet, marks_quiet count happening quiet)

-- what was done last decides
pub lock_last : (lock : ℕ) (did : List Happening) (last : Happening) → has_lock lock (did ++ last ∷ []) ≡ has_after lock (has_lock lock did) last
lock_last lock did last = fold-append (has_after lock) false did (last ∷ [])

-- a step that touches no lock leaves what the task holds
pub holds_still : (lock : ℕ) (step : Step) (answer : Answer) (before : Bool) → TouchesNoLock step → holds_after lock step answer before ≡ before
holds_still lock (Load index) answer before ok = refl
holds_still lock (Insert index word) answer before ok = refl
holds_still lock (TryConsume index word) answer before ok = refl
holds_still lock (Consume index) answer before ok = refl
holds_still lock (Remove index) answer before ok = refl
holds_still lock (PairLoad index) answer before ok = refl
holds_still lock (Name index ticket) answer before ok = refl
holds_still lock (Tell index ticket) answer before ok = refl
holds_still lock (Clear index) answer before ok = refl
holds_still lock (CellLoad cell) answer before ok = refl
holds_still lock (CellExchange cell expected new) answer before ok = refl
holds_still lock (LockTry l holder) answer before ok = absurd ok
holds_still lock (LockStore l) answer before ok = absurd ok
holds_still lock Clock answer before ok = refl

-- it frees none
pub frees_none : (lock : ℕ) (step : Step) (Goal : Type 0) → TouchesNoLock step → step ≡ LockStore lock → Goal
frees_none lock step Goal ok is = let no : ⊥ = subst TouchesNoLock is ok in absurd no

-- the lock of a store
abbrev store_of : ℕ → Step → ℕ
store_of other (LockStore lock) = lock
store_of other step = other

pub same_store : (a b : ℕ) → LockStore a ≡ LockStore b → a ≡ b
same_store a b is = ap (λ (step : Step). store_of a step) is

-- so many of these variables are locks
abbrev locks_in : List Variable → ℕ
locks_in variables = count_by (λ v. is_lock v.contents) variables

one_more : (v : Variable) (more : List Variable) → locks_in (v ∷ more) ≡ cond (is_lock v.contents) 1 0 + locks_in more
one_more v more = sum_by-cons (λ (w : Variable). cond (is_lock w.contents) 1 0) v more

none_before : (v : Variable) (more : List Variable) → IsTrue (is_lock v.contents) → 0 ≡ locks_in (v ∷ more) → ⊥
none_before v more is same =
    let one : ◌≡◌ {A = ℕ} (cond {A = ℕ} (is_lock v.contents) 1 0) 1 = ap (λ (b : Bool). cond {A = ℕ} b 1 0) is in
    let all : 0 ≡ cond (is_lock v.contents) 1 0 + locks_in more = same ∙ one_more v more in
    omega arith

-- a lock's number is its own
pub own_number : (variables : List Variable) (a b : ℕ)
    → IsSomeAnd (slice_get variables a) (λ v. IsTrue (is_lock v.contents))
    → IsSomeAnd (slice_get variables b) (λ v. IsTrue (is_lock v.contents))
    → locks_in (take a variables) ≡ locks_in (take b variables) → a ≡ b
own_number [] a b at_a at_b same = absurd at_a
own_number (v ∷ more) zero zero at_a at_b same = refl
own_number (v ∷ more) zero (suc b) at_a at_b same = absurd (none_before v (take b more) at_a same)
own_number (v ∷ more) (suc a) zero at_a at_b same = absurd (none_before v (take a more) at_b (sym same))
own_number (v ∷ more) (suc a) (suc b) at_a at_b same =
    let left : locks_in (v ∷ take a more) ≡ cond (is_lock v.contents) 1 0 + locks_in (take a more) = one_more v (take a more) in
    let right : locks_in (v ∷ take b more) ≡ cond (is_lock v.contents) 1 0 + locks_in (take b more) = one_more v (take b more) in
    let both : cond (is_lock v.contents) 1 0 + locks_in (take a more) ≡ cond (is_lock v.contents) 1 0 + locks_in (take b more) = sym left ∙ (same ∙ right) in
    let rest : locks_in (take a more) ≡ locks_in (take b more) = omega arith in
    ap suc (own_number more a b at_a at_b rest)

-- what the task has, by what it did, it holds, by its records, the latest first, and it is a lock
abbrev pub Agree : Setting → List Happening → List Record → Type 0
Agree s did own = (lock : ℕ) → IsTrue (has_lock lock did) → IsLockAt s lock × IsTrue (holds (lock_number s lock) own)

-- a step that touches no lock, and what is quiet, leave it so
pub agree_step : (s : Setting) (did : List Happening) (own : List Record) (first : Record) → TouchesNoLock first.step → Agree s did own → Agree s did (first ∷ own)
agree_step s did own first ok agree lock has =
    let before = agree lock has in
    (before.0, holds_still (lock_number s lock) first.step first.answer (holds (lock_number s lock) own) ok ∙ before.1)

pub agree_quiet : (s : Setting) (did does : List Happening) (own : List Record) → AreQuiet does → Agree s did own → Agree s (did ++ does) own
agree_quiet s did does own quiet agree lock has = agree lock (sym (quiet_leaves lock did does quiet) ∙ has)

-- a refused try leaves it so
pub agree_refused : (s : Setting) (did : List Happening) (own : List Record) (first : Record) (lock task : ℕ) → first.step ≡ LockTry lock task → first.answer ≡ answers.Flag false
    → Agree s did own → Agree s did (first ∷ own)
agree_refused s did own first lock task step answer agree other has =
    let before = agree other has in (
      before.0,
      ap (λ (st : Step). holds_after (lock_number s other) st first.answer (holds (lock_number s other) own)) step
          ∙ (ap (λ (an : Answer). holds_after (lock_number s other) (LockTry lock task) an (holds (lock_number s other) own)) answer ∙ before.1),
    )

-- a lock is taken
taken_of : (b : Bool) (held : Bool) → held ≡ true → (if b then true else held) ≡ true
taken_of true held is = refl
taken_of false held is = is

agree_new : (s : Setting) (did : List Happening) (own : List Record) (lock other : ℕ) → IsLockAt s lock → Agree s did own
    → (((lock == other) ≡ true) × (lock ≡ other)) ⊎ (((lock == other) ≡ false) × (lock ≢ other))
    → IsTrue (if lock == other then true else has_lock other did)
    → IsLockAt s other × IsTrue (if lock_number s lock == lock_number s other then true else holds (lock_number s other) own)
agree_new s did own lock other is agree (inl p) has = (
  subst (λ (l : ℕ). IsLockAt s l) p.1 is,
  ap (λ (b : Bool). if b then true else holds (lock_number s other) own) (eq-eqb (lock_number s lock) (lock_number s other) (ap (lock_number s) p.1)),
)
agree_new s did own lock other is agree (inr p) has =
    let before = agree other (sym (ap (λ (b : Bool). if b then true else has_lock other did) p.0) ∙ has) in
    (before.0, taken_of (lock_number s lock == lock_number s other) (holds (lock_number s other) own) before.1)

pub agree_taken : (s : Setting) (did : List Happening) (own : List Record) (first : Record) (lock task : ℕ) → IsLockAt s lock
    → first.step ≡ LockTry (lock_number s lock) task → first.answer ≡ answers.Flag true
    → Agree s did own → Agree s (did ++ happenings.Lock lock ∷ []) (first ∷ own)
agree_taken s did own first lock task is step answer agree other has =
    let got = agree_new s did own lock other is agree (eqb_tells lock other) (sym (lock_last other did (happenings.Lock lock)) ∙ has) in (
      got.0,
      ap (λ (st : Step). holds_after (lock_number s other) st first.answer (holds (lock_number s other) own)) step
          ∙ (ap (λ (an : Answer). holds_after (lock_number s other) (LockTry (lock_number s lock) task) an (holds (lock_number s other) own)) answer ∙ got.1),
    )

-- a lock is freed
agree_less : (s : Setting) (did : List Happening) (own : List Record) (lock other : ℕ) → IsLockAt s lock → Agree s did own
    → (((lock == other) ≡ true) × (lock ≡ other)) ⊎ (((lock == other) ≡ false) × (lock ≢ other))
    → (((lock_number s lock == lock_number s other) ≡ true) × (lock_number s lock ≡ lock_number s other))
    ⊎ (((lock_number s lock == lock_number s other) ≡ false) × (lock_number s lock ≢ lock_number s other))
    → IsTrue (if lock == other then false else has_lock other did)
    → IsLockAt s other × IsTrue (if lock_number s lock == lock_number s other then false else holds (lock_number s other) own)
agree_less s did own lock other is agree (inl p) q has =
    let no : false ≡ true = sym (ap (λ (b : Bool). if b then false else has_lock other did) p.0) ∙ has in cc
agree_less s did own lock other is agree (inr p) (inl q) has =
    let before = agree other (sym (ap (λ (b : Bool). if b then false else has_lock other did) p.0) ∙ has) in
    absurd (p.1 (own_number s.text.variables lock other is before.0 q.1))
agree_less s did own lock other is agree (inr p) (inr q) has =
    let before = agree other (sym (ap (λ (b : Bool). if b then false else has_lock other did) p.0) ∙ has) in
    (before.0, ap (λ (b : Bool). if b then false else holds (lock_number s other) own) q.0 ∙ before.1)

pub agree_freed : (s : Setting) (did : List Happening) (own : List Record) (first : Record) (lock : ℕ) → IsTrue (has_lock lock did)
    → first.step ≡ LockStore (lock_number s lock) → Agree s did own → Agree s (did ++ happenings.Unlock lock ∷ []) (first ∷ own)
agree_freed s did own first lock mine step agree other has =
    let got = agree_less s did own lock other (agree lock mine).0 agree (eqb_tells lock other) (eqb_tells (lock_number s lock) (lock_number s other))
    (sym (lock_last other did (happenings.Unlock lock)) ∙ has) in
    (got.0, ap (λ (st : Step). holds_after (lock_number s other) st first.answer (holds (lock_number s other) own)) step ∙ got.1)
