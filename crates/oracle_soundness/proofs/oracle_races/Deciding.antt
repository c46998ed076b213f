-- Tests of which both, or the first alone, decide something.
use Rattle.std.proofs.Common.{◌≡◌, ◌↔◌, ◌∙◌, Bool, IsTrue, false, sym, true}

-- the first test says yes, and the second decides
pub both_yes : {first second : Bool} {P Q R : Type 0} → first ≡ true → (IsTrue first ↔ P) → (IsTrue second ↔ Q) → (P → Q → R) → (R → Q)
    → IsTrue second ↔ R
both_yes is p q make part = (λ yes. make (p.0 is) (q.0 yes), λ whole. q.1 (part whole))

-- the first test says no
pub first_no : {first : Bool} {P R : Type 0} → first ≡ false → (IsTrue first ↔ P) → (R → P) → IsTrue first ↔ R
first_no is p part = (λ yes. absurd (let bad : false ≡ true = sym is ∙ yes in cc), λ whole. p.1 (part whole))
