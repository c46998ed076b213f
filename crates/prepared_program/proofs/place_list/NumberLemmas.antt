-- Which texts spell numbers.
use Rattle.std.proofs.Common.{◌≡◌, ◌≢◌, ◌<◌, ◌≤◌, ◌++◌, ◌↔◌, ◌∙◌, ℕ, zero, suc, List, [], ◌∷◌, Bor, inl, inr}
use Rattle.std.proofs.Common.{Option, None, Some, false, ap, arith, get_or, length}
use Rattle.std.proofs.Common.{sym, subst}
use Rattle.std.specs.Prelude.{All, ◌==◌}
use Rattle.std.specs.Char.{digit_value}
use Rattle.std.specs.Str.Parse.{AllDigits, digits_value}
use Rattle.std.proofs.lemmas.Bool.{ne_eqb}
use Rattle.std.proofs.lemmas.List.Elements.{All-cons}
use Rattle.std.proofs.lemmas.Str.Pattern.{IsSplitOnceResult, split_after, split_parts}
use Rattle.prepared_program.specs.place_list.Spelling.{SpellsDigits, SpellsNumber}

-- no decimal digits have an `x`
no-x : (before after : List ℕ) → AllDigits 10 (before ++ 120 ∷ after) → ⊥
no-x [] after digits = let below : digit_value 120 < 10 = digits.0 in omega arith
no-x (byte ∷ before) after digits = no-x before after digits.1

zero-alone : (i : ℕ) → i < length {A = ℕ} (48 ∷ []) → get_or {A = ℕ} (48 ∷ []) i 0 ≢ 120
zero-alone zero within e = let other : ◌≡◌ {A = ℕ} 48 120 = e in omega arith
zero-alone (suc i) within e = omega arith

-- a text without an `x` is decimal
pub number-plain : (text : List ℕ) (parts : Option (Bor (List ℕ) × Bor (List ℕ))) → IsSplitOnceResult 120 text parts
    → parts ≡ None → (read : Option ℕ) → ((n : ℕ) → SpellsDigits 10 text n ↔ (read ≡ Some n)) → (n : ℕ)
    → SpellsNumber text n ↔ (read ≡ Some n)
number-plain text (Some x) split none read decimal n = absurd cc
number-plain text None split none read decimal n = (λ spelled. to spelled, λ e. inl ((decimal n).1 e))
  where
    to : SpellsNumber text n → read ≡ Some n
    to (inl digits) = (decimal n).0 digits
    to (inr prefixed) = absurd (split_after 120 text (48 ∷ []) prefixed.0 None split (omega arith) prefixed.1 zero-alone)

-- the text before and after its first `x`
cut : (text : List ℕ) (parts : Option (Bor (List ℕ) × Bor (List ℕ))) (x : Bor (List ℕ) × Bor (List ℕ))
    → IsSplitOnceResult 120 text parts → parts ≡ Some x → text ≡ x.0.now ++ 120 ∷ x.1.now
cut text None x split some = absurd cc
cut text (Some y) x split some =
    let same : y ≡ x = cc in
    subst (λ z. text ≡ z.0.now ++ 120 ∷ z.1.now) same ((split_parts 120 text (Some y) split (omega arith)).0)

-- behind `0x` stand the digits
behind : (text : List ℕ) (parts : Option (Bor (List ℕ) × Bor (List ℕ))) (x : Bor (List ℕ) × Bor (List ℕ))
    → IsSplitOnceResult 120 text parts → parts ≡ Some x → (digits : List ℕ) → text ≡ 48 ∷ 120 ∷ digits
    → (x.0.now ≡ 48 ∷ []) × (x.1.now ≡ digits)
behind text None x split some digits is = absurd cc
behind text (Some y) x split some digits is =
    let same : y ≡ x = cc in
    subst (λ z. (z.0.now ≡ 48 ∷ []) × (z.1.now ≡ digits)) same
    (split_after 120 text (48 ∷ []) digits (Some y) split (omega arith) is zero-alone)

-- a text with `0` before its first `x` is hexadecimal
pub number-prefixed : (text : List ℕ) (parts : Option (Bor (List ℕ) × Bor (List ℕ))) (x : Bor (List ℕ) × Bor (List ℕ))
    → IsSplitOnceResult 120 text parts → parts ≡ Some x → x.0.now ≡ 48 ∷ [] → (read : Option ℕ)
    → ((n : ℕ) → SpellsDigits 16 x.1.now n ↔ (read ≡ Some n)) → (n : ℕ) → SpellsNumber text n ↔ (read ≡ Some n)
number-prefixed text parts x split some zeroed read hexadecimal n = (λ spelled. to spelled, λ e. from e)
  where
    whole : text ≡ 48 ∷ 120 ∷ x.1.now
    whole = cut text parts x split some ∙ ap (λ before. before ++ 120 ∷ x.1.now) zeroed

    to : SpellsNumber text n → read ≡ Some n
    to (inl digits) = absurd (no-x (48 ∷ []) x.1.now (subst (AllDigits 10) whole digits.numeral.1))
    to (inr prefixed) =
        let are = behind text parts x split some prefixed.0 prefixed.1 in
        (hexadecimal n).0 (subst (λ ds. SpellsDigits 16 ds n) (sym are.1) prefixed.2)

    from : read ≡ Some n → SpellsNumber text n
    from e = inr (x.1.now, whole, (hexadecimal n).1 e)

-- a text with something else before its first `x` spells no number
pub number-none : (text : List ℕ) (parts : Option (Bor (List ℕ) × Bor (List ℕ))) (x : Bor (List ℕ) × Bor (List ℕ))
    → IsSplitOnceResult 120 text parts → parts ≡ Some x → x.0.now ≢ 48 ∷ [] → (n : ℕ) → SpellsNumber text n → ⊥
number-none text parts x split some other n (inl digits) =
    no-x x.0.now x.1.now (subst (AllDigits 10) (cut text parts x split some) digits.numeral.1)
number-none text parts x split some other n (inr prefixed) =
    other ((behind text parts x split some prefixed.0 prefixed.1).0)

-- a text spells one number at most
pub number-one : (text : List ℕ) (one other : ℕ) → SpellsNumber text one → SpellsNumber text other → one ≡ other
number-one text one other (inl s) (inl t) = sym s.value ∙ t.value
number-one text one other (inl s) (inr t) = absurd (no-x (48 ∷ []) t.0 (subst (AllDigits 10) t.1 s.numeral.1))
number-one text one other (inr s) (inl t) = absurd (no-x (48 ∷ []) s.0 (subst (AllDigits 10) s.1 t.numeral.1))
number-one text one other (inr s) (inr t) =
    let whole : 48 ∷ 120 ∷ s.0 ≡ 48 ∷ 120 ∷ t.0 = sym s.1 ∙ t.1 in
    let same : s.0 ≡ t.0 = cc in
    sym s.2.value ∙ ap (digits_value 16) same ∙ t.2.value

-- no byte of the text is this one
abbrev pub Lacks : ℕ → List ℕ → Type 0
Lacks byte text = All (λ b. (b == byte) ≡ false) text

digits-lack : (radix : ℕ) (digits : List ℕ) (byte : ℕ) → AllDigits radix digits → radix ≤ digit_value byte
    → Lacks byte digits
digits-lack radix [] byte all large = λ k d within. absurd (omega arith)
digits-lack radix (digit ∷ digits) byte all large =
    let other : digit ≢ byte = λ e. let below = subst (λ d. digit_value d < radix) e all.0 in omega arith in
    All-cons (λ b. (b == byte) ≡ false) digit digits (ne_eqb digit byte other) (digits-lack radix digits byte all.1 large)

-- no byte that is no digit is one of a number's, but `x`
pub number-lacks : (text : List ℕ) (n byte : ℕ) → SpellsNumber text n → 16 ≤ digit_value byte → byte ≢ 48
    → byte ≢ 120 → Lacks byte text
number-lacks text n byte (inl s) large zeroed prefix = digits-lack 10 text byte s.numeral.1 (omega arith)
number-lacks text n byte (inr s) large zeroed prefix =
    subst (Lacks byte) (sym s.1)
    (All-cons (λ b. (b == byte) ≡ false) 48 (120 ∷ s.0) (ne_eqb 48 byte (λ e. zeroed (sym e)))
    (All-cons (λ b. (b == byte) ≡ false) 120 s.0 (ne_eqb 120 byte (λ e. prefix (sym e)))
    (digits-lack 16 s.0 byte s.2.numeral.1 large)))

pub number-some : (text : List ℕ) (n : ℕ) → SpellsNumber text n → 0 < length text
number-some text n (inl s) = s.numeral.0
number-some text n (inr s) = let long = ap length s.1 in omega arith
