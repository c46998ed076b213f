-- Escapes are all that colours add.
use Rattle.std.proofs.Common.{◌≡◌, ◌==◌, ◌++◌, ◌∷◌, ◌∙◌, ◌≢◌, ℕ, All, Bool, List, [], true, false, ap, get_or, refl, subst, sym}
use Rattle.std.proofs.lemmas.Bool.{eqb-true}
use Rattle.std.proofs.lemmas.List.{append-nil, append_assoc}
use Rattle.std.proofs.lemmas.List.Folds.{list_all-append}
use Rattle.std.proofs.lemmas.List.Sums.{list_all-from_AllPass}
use Rattle.std.specs.Cmp.Derive.{both_true}
use Rattle.std.specs.List.{list_all, starts_with}
use Rattle.std.specs.Prelude.{◌&&◌, codes, if◌then◌else◌, nat_eq, not}
use Rattle.cli.specs.colors.Colored.{Row, colored, colored_from, colored_line, escape, styled, styles}
use Rattle.cli.specs.colors.Escapes.{outside_escapes, without_escapes}
use Rattle.cli.proofs.colors.ColoredLemmas.{colored_is}

left_true : (a b : Bool) → (a && b) ≡ true → a ≡ true
left_true true b h = refl
left_true false b h = h

right_true : (a b : Bool) → (a && b) ≡ true → b ≡ true
right_true true b h = h
right_true false b h = cc

-- bytes that begin no escape, and bytes that end none
abbrev begins_none : List ℕ → Bool
begins_none text = list_all (λ byte. not (byte == 27)) text

abbrev ends_none : List ℕ → Bool
ends_none text = list_all (λ byte. not (byte == 109)) text

-- bytes before a text that begin no escape stay
stays_one : (begins : Bool) (byte : ℕ) (text line rest : List ℕ) → not begins ≡ true
    → outside_escapes false text ≡ line ++ rest
    → (if begins then outside_escapes true text else byte ∷ outside_escapes false text) ≡ byte ∷ (line ++ rest)
stays_one true byte text line rest none is = cc
stays_one false byte text line rest none is = ap (λ (more : List ℕ). byte ∷ more) is

stays : (line rest : List ℕ) → begins_none line ≡ true
    → outside_escapes false (line ++ rest) ≡ line ++ outside_escapes false rest
stays [] rest none = refl
stays (byte ∷ line) rest none =
    let others = list_all (λ (b : ℕ). not (b == 27)) line in
    stays_one (byte == 27) byte (line ++ rest) line (outside_escapes false rest) (left_true (not (byte == 27)) others none)
    (stays line rest (right_true (not (byte == 27)) others none))

-- an escape goes away
goes_one : (ends : Bool) (text rest : List ℕ) → not ends ≡ true → outside_escapes true text ≡ rest
    → outside_escapes (not ends) text ≡ rest
goes_one true text rest none is = cc
goes_one false text rest none is = is

goes_inside : (parameters rest : List ℕ) → ends_none parameters ≡ true
    → outside_escapes true ((parameters ++ 109 ∷ []) ++ rest) ≡ outside_escapes false rest
goes_inside [] rest none = refl
goes_inside (byte ∷ parameters) rest none =
    let others = list_all (λ (b : ℕ). not (b == 109)) parameters in
    goes_one (byte == 109) ((parameters ++ 109 ∷ []) ++ rest) (outside_escapes false rest)
    (left_true (not (byte == 109)) others none)
    (goes_inside parameters rest (right_true (not (byte == 109)) others none))

goes : (parameters rest : List ℕ) → ends_none parameters ≡ true
    → outside_escapes false (escape parameters ++ rest) ≡ outside_escapes false rest
goes parameters rest none = goes_inside parameters rest none

-- a coloured line leaves the line
styled_leaves : (parameters line rest : List ℕ) → ends_none parameters ≡ true → begins_none line ≡ true
    → outside_escapes false (styled parameters line ++ rest) ≡ line ++ outside_escapes false rest
styled_leaves parameters line rest none clean =
    let end = escape (codes "0") in
    ap (outside_escapes false) (append_assoc (escape parameters) (line ++ end) rest ∙ ap (λ (more : List ℕ). escape parameters ++ more) (append_assoc line end rest))
    ∙ (goes parameters (line ++ (end ++ rest)) none
    ∙ (stays line (end ++ rest) clean ∙ ap (λ (more : List ℕ). line ++ more) (goes (codes "0") rest refl)))

one_leaves : (begins : Bool) (row : Row) (rows : List Row) (line rest : List ℕ)
    → outside_escapes false (styled row.1 line ++ rest) ≡ line ++ outside_escapes false rest
    → outside_escapes false (colored_line rows line ++ rest) ≡ line ++ outside_escapes false rest
    → outside_escapes false ((if begins then styled row.1 line else colored_line rows line) ++ rest) ≡ line ++ outside_escapes false rest
one_leaves true row rows line rest own others = own
one_leaves false row rows line rest own others = others

line_leaves : (rows : List Row) (line rest : List ℕ) → list_all (λ (row : Row). ends_none row.1) rows ≡ true
    → begins_none line ≡ true
    → outside_escapes false (colored_line rows line ++ rest) ≡ line ++ outside_escapes false rest
line_leaves [] line rest none clean = stays line rest clean
line_leaves (row ∷ rows) line rest none clean =
    let others = list_all (λ (r : Row). ends_none r.1) rows in
    one_leaves (starts_with nat_eq line row.0) row rows line rest
    (styled_leaves row.1 line rest (left_true (ends_none row.1) others none) clean)
    (line_leaves rows line rest (right_true (ends_none row.1) others none) clean)

-- so do the lines of a text
text_step : (ends : Bool) (rows : List Row) (line text : List ℕ) (byte : ℕ) → (ends ≡ true → byte ≡ 10)
    → outside_escapes false (colored_line rows line ++ 10 ∷ colored_from rows [] text) ≡ line ++ 10 ∷ text
    → outside_escapes false (colored_from rows (line ++ byte ∷ []) text) ≡ line ++ byte ∷ text
    → outside_escapes false (if ends then colored_line rows line ++ 10 ∷ colored_from rows [] text else colored_from rows (line ++ byte ∷ []) text)
    ≡ line ++ byte ∷ text
text_step true rows line text byte is over goes_on =
    subst (λ (b : ℕ). outside_escapes false (colored_line rows line ++ 10 ∷ colored_from rows [] text) ≡ line ++ b ∷ text) (sym (is refl)) over
text_step false rows line text byte is over goes_on = goes_on

text_leaves : (rows : List Row) (text line : List ℕ) → list_all (λ (row : Row). ends_none row.1) rows ≡ true
    → begins_none text ≡ true → begins_none line ≡ true → outside_escapes false (colored_from rows line text) ≡ line ++ text
text_leaves rows [] line none plain clean =
    ap (outside_escapes false) (sym (append-nil (colored_line rows line))) ∙ line_leaves rows line [] none clean
text_leaves rows (byte ∷ text) line none plain clean =
    let own = left_true (not (byte == 27)) (begins_none text) plain in
    let others = right_true (not (byte == 27)) (begins_none text) plain in
    text_step (byte == 10) rows line text byte (eqb-true byte 10)
    (line_leaves rows line (10 ∷ colored_from rows [] text) none clean
    ∙ ap (λ (rest : List ℕ). line ++ 10 ∷ rest) (text_leaves rows text [] none others refl))
    (text_leaves rows text (line ++ byte ∷ []) none others
    (list_all-append (λ (b : ℕ). not (b == 27)) line (byte ∷ []) ∙ both_true clean (both_true own refl))
    ∙ append_assoc line (byte ∷ []) text)

not_eq : (byte other : ℕ) (same : Bool) → (byte == other) ≡ same → byte ≢ other → not same ≡ true
not_eq byte other true is differs = absurd (differs (eqb-true byte other is))
not_eq byte other false is differs = refl

pub colored_leaves : (text : List ℕ) → All (λ (byte : ℕ). byte ≢ 27) text → without_escapes (colored text) ≡ text
colored_leaves text clean =
    ap (outside_escapes false) (sym (colored_is text))
    ∙ text_leaves styles text [] refl
    (list_all-from_AllPass (λ (b : ℕ). not (b == 27)) text
    (λ k d within. not_eq (get_or text k d) 27 (get_or text k d == 27) refl (clean k d within))) refl
