-- The lines of a text, coloured as they end, are its lines, coloured one by one.
use Rattle.std.proofs.Common.{◌≡◌, ◌==◌, ◌<◌, ◌++◌, ◌∷◌, ◌∙◌, ℕ, Bool, List, [], true, false, ap, arith, length, map, refl, sym}
use Rattle.std.proofs.lemmas.List.{append-nil, append_assoc}
use Rattle.std.proofs.lemmas.List.Splits.{length-slice_split}
use Rattle.std.specs.List.{join_with_byte, onto_first, slice_split}
use Rattle.std.specs.Prelude.{if◌then◌else◌}
use Rattle.cli.specs.colors.Colored.{Row, colored, colored_from, colored_line, styles}

-- the lines of a text
abbrev parts : List ℕ → List (List ℕ)
parts text = slice_split (λ byte. byte == 10) text

-- lines, each in these styles, put together
abbrev joined : List Row → List (List ℕ) → List ℕ
joined rows lines = join_with_byte 10 (map (colored_line rows) lines)

-- a line so far, before the rest of it and the others
abbrev onto : List ℕ → List (List ℕ) → List (List ℕ)
onto line [] = line ∷ []
onto line (part ∷ more) = (line ++ part) ∷ more

onto_none : (lines : List (List ℕ)) → 0 < length lines → onto [] lines ≡ lines
onto_none [] some = absurd (omega (arith, some))
onto_none (part ∷ more) some = refl

onto_more : (line : List ℕ) (byte : ℕ) (lines : List (List ℕ)) → onto (line ++ byte ∷ []) lines ≡ onto line (onto_first byte lines)
onto_more line byte [] = refl
onto_more line byte (part ∷ more) = ap (λ (first : List ℕ). first ∷ more) (append_assoc line (byte ∷ []) part)

some_parts : (text : List ℕ) → 0 < length (parts text)
some_parts text = let counted = length-slice_split (λ byte. byte == 10) text in omega (arith, counted)

joined_next : (rows : List Row) (line : List ℕ) (lines : List (List ℕ)) → 0 < length lines
    → joined rows (line ∷ lines) ≡ colored_line rows line ++ 10 ∷ joined rows lines
joined_next rows line [] some = absurd (omega (arith, some))
joined_next rows line (part ∷ more) some = refl

-- one byte more, where it ends the line or not
step : (ends : Bool) (rows : List Row) (line text : List ℕ) (byte : ℕ)
    → colored_from rows [] text ≡ joined rows (onto [] (parts text))
    → colored_from rows (line ++ byte ∷ []) text ≡ joined rows (onto (line ++ byte ∷ []) (parts text))
    → (if ends then colored_line rows line ++ 10 ∷ colored_from rows [] text else colored_from rows (line ++ byte ∷ []) text)
    ≡ joined rows (onto line (if ends then [] ∷ parts text else onto_first byte (parts text)))
step true rows line text byte next goes_on =
    ap (λ (rest : List ℕ). colored_line rows line ++ 10 ∷ rest) (next ∙ ap (joined rows) (onto_none (parts text) (some_parts text)))
    ∙ (sym (joined_next rows line (parts text) (some_parts text))
    ∙ ap (λ (first : List ℕ). joined rows (first ∷ parts text)) (sym (append-nil line)))
step false rows line text byte next goes_on = goes_on ∙ ap (joined rows) (onto_more line byte (parts text))

lines_from : (rows : List Row) (text line : List ℕ) → colored_from rows line text ≡ joined rows (onto line (parts text))
lines_from rows [] line = ap (λ (only : List ℕ). joined rows (only ∷ [])) (sym (append-nil line))
lines_from rows (byte ∷ text) line =
    step (byte == 10) rows line text byte (lines_from rows text []) (lines_from rows text (line ++ byte ∷ []))

pub colored_is : (text : List ℕ) → colored_from styles [] text ≡ colored text
colored_is text = lines_from styles text [] ∙ ap (joined styles) (onto_none (parts text) (some_parts text))

-- so what is added behind nothing is the text in colours
pub added_is : (before line text found : List ℕ) → before ≡ [] → line ≡ [] → found ≡ before ++ colored_from styles line text
    → found ≡ colored text
added_is before line text found none empty is =
    is ∙ (ap (λ (front : List ℕ). front ++ colored_from styles line text) none
    ∙ (ap (λ (first : List ℕ). colored_from styles first text) empty ∙ colored_is text))
