-- A name's number is the one that the grammar gives it.
use Rattle.std.proofs.Common.{◌≡◌, ◌∙◌, ◌==◌, ◌++◌, ℕ, ◌<◌, ◌≤◌, List, [], ◌∷◌, Bool, false, cond, Option, Some, None, length, refl, ap}
use Rattle.std.proofs.Common.{arith, eq-eqb}
use Rattle.std.proofs.lemmas.Bool.{eqb-true}
use Rattle.litmus_expression.specs.Followed.{Differ}
use Rattle.litmus_expression.specs.NameReader.{index_of}
use Rattle.litmus_expression.specs.Names.{Names, Numbered, known, new}
use Rattle.litmus_expression.proofs.Fewer.{at_last, unless_it}
use Rattle.litmus_expression.proofs.Named.{found_at, index_nowhere, index_there, nowhere}
use Rattle.litmus_parse.specs.VariableReader.{number_at, numbered_with}

abbrev IsNumbered : Names → List ℕ → ℕ × Names → Type 0
IsNumbered names name y = Numbered 32 names name y.0 y.1

below : (n : ℕ) → (n == 32) ≡ false → n ≤ 32 → n < 32
below n e le = grind (arith, eq-eqb n 32)

not_limit : (n : ℕ) → n < 32 → (n == 32) ≡ false
not_limit n lt = grind (arith, eqb-true n 32)

numbered_is : (names : Names) (name : List ℕ) (o : Option ℕ) (x : ℕ × Names) → length names ≤ 32 → index_of names name ≡ o
    → numbered_with names name o ≡ Some x → IsNumbered names name x
numbered_is names name (Some n) x few is e = at_last (n, names) (IsNumbered names name) x e (known (index_there names name n is))
numbered_is names name None x few is e =
    unless_it (length names == 32) (Some (length names, names ++ name ∷ [])) (IsNumbered names name) x e (λ free e.
    at_last (length names, names ++ name ∷ []) (IsNumbered names name) x e
    (new (index_nowhere names name is) (below (length names) free few)))

pub number_spelled : (names : Names) (name : List ℕ) (x : ℕ × Names) → length names ≤ 32 → number_at names name ≡ Some x
    → Numbered 32 names name x.0 x.1
unfolding number_at
number_spelled names name x few e = numbered_is names name (index_of names name) x few refl e

pub number_read : (name : List ℕ) (number : ℕ) (names later : Names) → Differ names → Numbered 32 names name number later
    → number_at names name ≡ Some (number, later)
unfolding number_at
number_read name number names later differ (known there) = ap (numbered_with names name) (found_at names name number differ there)
number_read name number names later differ (new out lt) =
    ap (numbered_with names name) (nowhere names name out)
    ∙ ap (λ (b : Bool). cond b None (Some (length names, names ++ name ∷ []))) (not_limit (length names) lt)
