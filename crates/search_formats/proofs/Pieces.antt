-- Texts that are equal piece by piece.
use Rattle.std.proofs.Common.{◌≡◌, ◌++◌, ◌∙◌, ℕ, [], List, ap}

pub two : (x y a b : List ℕ) → x ≡ a → y ≡ b → x ++ (y ++ []) ≡ a ++ (b ++ [])
two x y a b p q = ap (λ t. t ++ (y ++ [])) p ∙ ap (λ t. a ++ (t ++ [])) q

pub three : (x y z a b d : List ℕ) → x ≡ a → y ≡ b → z ≡ d → x ++ (y ++ (z ++ [])) ≡ a ++ (b ++ (d ++ []))
three x y z a b d p q r = ap (λ t. t ++ (y ++ (z ++ []))) p ∙ ap (λ t. a ++ t) (two y z b d q r)

pub four : (x y z u a b d e : List ℕ) → x ≡ a → y ≡ b → z ≡ d → u ≡ e
    → x ++ (y ++ (z ++ (u ++ []))) ≡ a ++ (b ++ (d ++ (e ++ [])))
four x y z u a b d e p q r s = ap (λ t. t ++ (y ++ (z ++ (u ++ [])))) p ∙ ap (λ t. a ++ t) (three y z u b d e q r s)

pub five : (x y z u v a b d e f : List ℕ) → x ≡ a → y ≡ b → z ≡ d → u ≡ e → v ≡ f
    → x ++ (y ++ (z ++ (u ++ (v ++ [])))) ≡ a ++ (b ++ (d ++ (e ++ (f ++ []))))
five x y z u v a b d e f p q r s o =
    ap (λ t. t ++ (y ++ (z ++ (u ++ (v ++ []))))) p ∙ ap (λ t. a ++ t) (four y z u v b d e f q r s o)
