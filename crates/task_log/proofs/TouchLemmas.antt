-- The newest access that goes on is the one that ends, and where all have ended nothing changes.
use Rattle.std.proofs.Common.{◌≡◌, ◌+◌, ◌<◌, ◌≤◌, ℕ, inl, inr, zero, suc, Bool, true, false, List, [], ◌∷◌}
use Rattle.std.proofs.Common.{Some, ap, arith, get_or, length, refl, set}
use Rattle.std.proofs.lemmas.Bool.{cases_lt}
use Rattle.std.proofs.lemmas.List.{get_or_default}
use Rattle.std.proofs.Math.Bool.{◌||◌}
use Rattle.std.specs.List.{list_any}
use Rattle.task_log.specs.Touches.{end_newest, goes_on}
use Rattle.task_log.specs.declared.touches.Touch.{Touch}

-- all have ended
pub none_goes_on : (touches : List Touch)
    → ((k : ℕ) (d : Touch) → k < length touches → goes_on (get_or touches k d) ≡ false)
    → list_any goes_on touches ≡ false
none_goes_on [] ended = refl
none_goes_on (touch ∷ newer) ended =
    let first : goes_on touch ≡ false = ended 0 touch (omega arith) in
    let rest : list_any goes_on newer ≡ false =
    none_goes_on newer (λ k d within. ended (suc k) d (omega arith)) in
    rw (first, rest) refl

or_true : (a : Bool) → a || true ≡ true
or_true true = refl
or_true false = refl

-- one of them goes on
pub one_goes_on : (touches : List Touch) (i : ℕ) (d : Touch) → i < length touches
    → goes_on (get_or touches i d) ≡ true → list_any goes_on touches ≡ true
one_goes_on [] i d within goes = absurd (omega arith)
one_goes_on (touch ∷ newer) zero d within goes = rw goes refl
one_goes_on (touch ∷ newer) (suc i) d within goes =
    let rest : list_any goes_on newer ≡ true = one_goes_on newer i d (omega arith) goes in
    rw rest (or_true (goes_on touch))

-- the newest that goes on is where those behind it have ended
pub ends_newest : (touches : List Touch) (i : ℕ) (d : Touch) (stamp : ℕ) → i < length touches
    → goes_on (get_or touches i d) ≡ true
    → ((k : ℕ) (e : Touch) → i < k → k < length touches → goes_on (get_or touches k e) ≡ false)
    → set touches i (record (get_or touches i d) { end = Some stamp }) ≡ end_newest stamp touches
ends_newest [] i d stamp within goes ended = absurd (omega arith)
ends_newest (touch ∷ newer) zero d stamp within goes ended =
    let rest : list_any goes_on newer ≡ false =
    none_goes_on newer (λ k e inside. ended (suc k) e (omega arith) (omega arith)) in
    rw (rest, goes) refl
ends_newest (touch ∷ newer) (suc i) d stamp within goes ended =
    let rest : list_any goes_on newer ≡ true = one_goes_on newer i d (omega arith) goes in
    rw rest (ap (λ more. touch ∷ more)
    (ends_newest newer i d stamp (omega arith) goes
    (λ k e after inside. ended (suc k) e (omega arith) (omega arith))))

-- where all have ended nothing changes
pub ends_none : (touches : List Touch) (stamp : ℕ)
    → ((k : ℕ) (d : Touch) → k < length touches → goes_on (get_or touches k d) ≡ false)
    → touches ≡ end_newest stamp touches
ends_none [] stamp ended = refl
ends_none (touch ∷ newer) stamp ended =
    let first : goes_on touch ≡ false = ended 0 touch (omega arith) in
    let rest : list_any goes_on newer ≡ false =
    none_goes_on newer (λ k d within. ended (suc k) d (omega arith)) in
    rw (rest, first) refl

-- one more has ended
pub ended_from : (touches : List Touch) (at left : ℕ) (e : Touch) → at + 1 ≡ left
    → ((k : ℕ) (d : Touch) → left ≤ k → k < length touches → goes_on (get_or touches k d) ≡ false)
    → at < length touches → goes_on (get_or touches at e) ≡ false
    → (k : ℕ) (d : Touch) → at ≤ k → k < length touches → goes_on (get_or touches k d) ≡ false
ended_from touches at left e next ended inside here k d from within =
    elim (cases_lt at k) [
      | inl after ↦ ended k d (omega arith) within
      | inr before ↦ let same : k ≡ at = omega arith in
          rw (same, get_or_default touches at d e inside) here
    ]
