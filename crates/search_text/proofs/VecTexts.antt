-- Texts, in vectors and as lists.
use Rattle.std.proofs.Common.{◌≡◌, ◌++◌, ◌∷◌, ◌∙◌, ◌||◌, ℕ, List, [], Bool, true, false, ap, refl, sym, Vec, Global}
use Rattle.std.specs.List.{list_any}
use Rattle.std.proofs.lemmas.Cmp.{nat_list_eq_equiv}
use Rattle.std.proofs.lemmas.List.{map-append}
use Rattle.report_text.specs.Groups.{is_text, seen_too}
use Rattle.search_text.specs.Texts.{texts_in}

-- a text is among vectors where it is among their texts
any_vec : (texts : List (Vec ℕ Global)) (text : List ℕ)
    → list_any (λ other. is_text other.items text) texts ≡ list_any (is_text text) (texts_in texts)
any_vec [] text = refl
any_vec (first ∷ texts) text =
    ap (λ b. b || list_any (λ other. is_text other.items text) texts) (nat_list_eq_equiv.symm first.items text)
    ∙ ap (λ b. is_text text first.items || b) (any_vec texts text)

pub old_text : (texts : List (Vec ℕ Global)) (text : Vec ℕ Global) → list_any (λ other. is_text other.items text.items) texts ≡ true
    → texts_in texts ≡ seen_too (texts_in texts) text.items
old_text texts text old =
    let there : list_any (is_text text.items) (texts_in texts) ≡ true = sym (any_vec texts text.items) ∙ old in
    rw there refl

pub new_text : (texts : List (Vec ℕ Global)) (text : Vec ℕ Global) → list_any (λ other. is_text other.items text.items) texts ≡ false
    → texts_in (texts ++ text ∷ []) ≡ seen_too (texts_in texts) text.items
new_text texts text new =
    let there : list_any (is_text text.items) (texts_in texts) ≡ false = sym (any_vec texts text.items) ∙ new in
    rw there (map-append (λ other. other.items) texts (text ∷ []))
