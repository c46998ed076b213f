-- A lock word that is put back as it was.
use Rattle.std.proofs.Common.{◌≡◌, ◌↔◌, ◌+◌, ◌∙◌, ◌<◌, ◌∷◌, [], ℕ, zero, suc, List, Some, ap, arith, get_or, length, refl, set, slice_get, sym}
use Rattle.slot_table.specs.StepLine.{lock_try_line, step_line}
use Rattle.slot_table.specs.Words.{Words, but_clock}
use Rattle.slot_table.specs.declared.step.Step.TheVariants.{LockStore, LockTry}

set_here : (xs : List ℕ) (at x : ℕ) → at < length xs → slice_get (set xs at x) at ≡ Some x
set_here [] at x below = absurd (omega (arith, below))
set_here (first ∷ later) zero x below = refl
set_here (first ∷ later) (suc at) x below = set_here later at x (omega (arith, below))

-- freed and then taken, the word says who took it
taken : (xs : List ℕ) (at task : ℕ) → at < length xs
    → (let freed = set xs at 0 in set freed at ((lock_try_line task (get_or freed at 0)).after)) ≡ set xs at (1 + task)
taken [] at task below = absurd (omega (arith, below))
taken (first ∷ later) zero task below = refl
taken (first ∷ later) (suc at) task below = ap (λ (rest : List ℕ). first ∷ rest) (taken later at task (omega (arith, below)))

-- a word that is set to what it is
kept : (xs : List ℕ) (at x : ℕ) → slice_get xs at ≡ Some x → set xs at x ≡ xs
kept [] at x is = refl
kept (first ∷ later) zero x is = let same : first ≡ x = cc in ap (λ (one : ℕ). one ∷ later) (sym same)
kept (first ∷ later) (suc at) x is = ap (λ (rest : List ℕ). first ∷ rest) (kept later at x is)

pub held_word : (words : Words) (lock task : ℕ) → lock < length words.locks
    → (but_clock words ≡ but_clock (step_line (step_line words (LockStore lock)).after (LockTry lock task)).after)
    ↔ (slice_get words.locks lock ≡ Some (1 + task))
held_word words lock task below = (
  λ same. let locks : words.locks ≡ set words.locks lock (1 + task) = ap (λ (w : Words). w.locks) same ∙ taken words.locks lock task below in
      ap (λ (xs : List ℕ). slice_get xs lock) locks ∙ set_here words.locks lock (1 + task) below,
  λ held. let locks : words.locks ≡ _ = sym (taken words.locks lock task below ∙ kept words.locks lock (1 + task) held) in
      ap (λ (xs : List ℕ). record words { locks = xs; clock = 0 }) locks,
)
