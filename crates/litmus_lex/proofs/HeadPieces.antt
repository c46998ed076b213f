-- What the head passes over is one row of pieces, and so a text has one head.
use Rattle.std.proofs.Common.{◌≡◌, ◌⊎◌, ℕ, zero, suc, ◌+◌, ◌<◌, ◌≤◌, List, [], ◌∷◌, ◌++◌, ◌∙◌, true, ap, append_assoc, arith, drop, get_or, inl, inr, length, refl, subst, sym, take}
use Rattle.std.proofs.lemmas.Bool.Decides.{nat_tests}
use Rattle.litmus_lex.specs.declared.bytes.Class.{Class}
use Rattle.litmus_lex.specs.declared.bytes.Class.TheVariants.{Blank, Graphic, InQuotes}
use Rattle.litmus_lex.specs.declared.gap.Comment.{Comment}
use Rattle.litmus_lex.specs.declared.gap.Comment.TheVariants.{Parens, Slashes, Line}
use Rattle.litmus_lex.specs.declared.token.Part.TheVariants.{Head}
use Rattle.litmus_lex.specs.Bytes.{belongs, IsRun}
use Rattle.litmus_lex.specs.Gap.{IsAtToken, IsSeparator, IsUnclosed, Opens}
use Rattle.litmus_lex.specs.Head.{EndsAtQuote, HasTitle, IsAtBrace, IsHead, IsOther, IsPassed, IsPassedOver, IsQuoted}
use Rattle.litmus_lex.specs.Found.{IsNowhere}
use Rattle.litmus_lex.proofs.Unique.{Same, gap_unique, row_unique, run_unique, separator_unique, token_separator, unclosed_separator, unclosed_token}

-- ---- quoted texts

-- a run up to a byte doesn't depend on what follows that byte
run_rest : (class : Class) (run x y : List ℕ) (next : ℕ) → IsRun class run (next ∷ x)
    → IsRun class run (next ∷ y)
run_rest class [] x y next is = is
run_rest class (byte ∷ run) x y next is = (is.0, run_rest class run x y next is.1)

quote_unique : (a x b y : List ℕ) → EndsAtQuote a → EndsAtQuote b → a ++ x ≡ b ++ y → Same a x b y
quote_unique a x b y first second whole =
    let one : a ++ x ≡ first.0 ++ (34 ∷ x) = ap (λ xs. xs ++ x) first.1
    ∙ append_assoc first.0 (34 ∷ []) x in
    let two : b ++ y ≡ second.0 ++ (34 ∷ y) = ap (λ xs. xs ++ y) second.1
    ∙ append_assoc second.0 (34 ∷ []) y in
    let run = run_unique InQuotes first.0 (34 ∷ x) second.0 (34 ∷ y)
    (run_rest InQuotes first.0 [] x 34 first.2) (run_rest InQuotes second.0 [] y 34 second.2)
    (sym one ∙ (whole ∙ two)) in
    let ends = run.rest in
    record { front = first.1 ∙ (ap (λ xs. xs ++ 34 ∷ []) run.front ∙ sym second.1); rest = cc }

-- a run to the end has no byte of another class
run_has : (class : Class) (a b : List ℕ) (next : ℕ) → IsRun class (a ++ (next ∷ b)) []
    → belongs class next ≡ true
run_has class [] b next is = is.0
run_has class (byte ∷ a) b next is = run_has class a b next is.1

open_quote : (a x : List ℕ) → IsRun InQuotes (a ++ x) [] → EndsAtQuote a → ⊥
open_quote a x run quote =
    let whole : a ++ x ≡ quote.0 ++ (34 ∷ x) = ap (λ xs. xs ++ x) quote.1
    ∙ append_assoc quote.0 (34 ∷ []) x in
    let has = run_has InQuotes quote.0 x 34 (subst (λ xs. IsRun InQuotes xs []) whole run) in
    cc

-- the first quote, which stands at n
pub quote_from_run : (bytes : List ℕ) (n : ℕ) → n < length bytes
    → IsRun InQuotes (take n bytes) (drop n bytes) → EndsAtQuote (take (n + 1) bytes)
quote_from_run [] n inside run = absurd (omega arith)
quote_from_run (b ∷ bytes) zero inside run =
    let byte : b ≡ 34 = grind (arith, nat_tests) in
    ([], ap (λ n. n ∷ []) byte, refl)
quote_from_run (b ∷ bytes) (suc n) inside run =
    let more = quote_from_run bytes n (omega arith) run.1 in
    let next : suc n + 1 ≡ suc (n + 1) = omega arith in
    (b ∷ more.0, rw next (ap (λ xs. b ∷ xs) more.1), (run.0, more.2))

-- ---- one piece

-- a quote and a `{` begin neither a blank nor a comment
quote_token : (bytes : List ℕ) → IsAtToken Head (34 ∷ bytes)
quote_token [] = refl
quote_token (b ∷ bytes) = (refl, opens) where
  opens : (kind : Comment) → Opens Head kind 34 b → ⊥
  opens Parens is = absurd (omega (arith, is.1))
  opens Slashes is = is.0
  opens Line is = is.0

brace_token : (bytes : List ℕ) → IsAtBrace bytes → IsAtToken Head bytes
brace_token [] brace = absurd brace
brace_token (a ∷ []) brace = ap (belongs Blank) brace
brace_token (a ∷ b ∷ bytes) brace = (ap (belongs Blank) brace, opens) where
  opens : (kind : Comment) → Opens Head kind a b → ⊥
  opens Parens is = absurd (omega (arith, is.1, brace))
  opens Slashes is = is.0
  opens Line is = is.0

separator_quoted : (a x b y : List ℕ) → IsSeparator Head a x → IsQuoted b → a ++ x ≡ b ++ y → ⊥
separator_quoted a x b y separator quoted whole =
    token_separator Head a x
    (subst (IsAtToken Head) (sym (whole ∙ ap (λ xs. xs ++ y) quoted.1))
    (quote_token (quoted.0 ++ y))) separator

separator_other : (a x b y : List ℕ) → IsSeparator Head a x → IsOther b y → a ++ x ≡ b ++ y → ⊥
separator_other a x b y separator other whole =
    token_separator Head a x
    (subst (IsAtToken Head) (sym (whole ∙ ap (λ xs. xs ++ y) other.1)) other.4) separator

quoted_other : (a x b y : List ℕ) → IsQuoted a → IsOther b y → a ++ x ≡ b ++ y → ⊥
quoted_other a x b y quoted other whole =
    let both : 34 ∷ (quoted.0 ++ x) ≡ other.0 ∷ y = sym (ap (λ xs. xs ++ x) quoted.1)
    ∙ (whole ∙ ap (λ xs. xs ++ y) other.1) in
    let byte : other.0 ≡ 34 = cc in
    other.3 byte

piece_unique : (a x b y : List ℕ) → IsPassed a x → IsPassed b y → a ++ x ≡ b ++ y → Same a x b y
piece_unique a x b y (inl first) (inl second) whole =
    separator_unique Head a x b y first second whole
piece_unique a x b y (inl first) (inr (inl second)) whole =
    absurd (separator_quoted a x b y first second whole)
piece_unique a x b y (inl first) (inr (inr second)) whole =
    absurd (separator_other a x b y first second whole)
piece_unique a x b y (inr (inl first)) (inl second) whole =
    absurd (separator_quoted b y a x second first (sym whole))
piece_unique a x b y (inr (inl first)) (inr (inl second)) whole =
    let both : 34 ∷ (first.0 ++ x) ≡ 34 ∷ (second.0 ++ y) = sym (ap (λ xs. xs ++ x) first.1)
    ∙ (whole ∙ ap (λ xs. xs ++ y) second.1) in
    let tail : first.0 ++ x ≡ second.0 ++ y = cc in
    let quote = quote_unique first.0 x second.0 y first.2 second.2 tail in
    record { front = first.1 ∙ (ap (λ xs. 34 ∷ xs) quote.front ∙ sym second.1); rest = quote.rest }
piece_unique a x b y (inr (inl first)) (inr (inr second)) whole =
    absurd (quoted_other a x b y first second whole)
piece_unique a x b y (inr (inr first)) (inl second) whole =
    absurd (separator_other b y a x second first (sym whole))
piece_unique a x b y (inr (inr first)) (inr (inl second)) whole =
    absurd (quoted_other b y a x second first (sym whole))
piece_unique a x b y (inr (inr first)) (inr (inr second)) whole =
    let both : first.0 ∷ x ≡ second.0 ∷ y = sym (ap (λ xs. xs ++ x) first.1)
    ∙ (whole ∙ ap (λ xs. xs ++ y) second.1) in
    let byte : first.0 ≡ second.0 = cc in
    record { front = first.1 ∙ (ap (λ n. n ∷ []) byte ∙ sym second.1); rest = cc }

-- ---- where the row stops

brace_piece : (a x : List ℕ) → IsAtBrace (a ++ x) → IsPassed a x → ⊥
brace_piece a x brace (inl separator) =
    token_separator Head a x (brace_token (a ++ x) brace) separator
brace_piece a x brace (inr (inl quoted)) =
    let is : IsAtBrace ((34 ∷ quoted.0) ++ x) = subst (λ xs. IsAtBrace (xs ++ x)) quoted.1 brace in
    absurd (omega (arith, is))
brace_piece a x brace (inr (inr other)) = other.2 (subst (λ xs. IsAtBrace (xs ++ x)) other.1 brace)

-- the row ends at a `{`, or at the end of the text
abbrev RowStops : List ℕ → Type 0
RowStops bytes = IsAtBrace bytes ⊎ IsNowhere bytes

stops_piece : (a x : List ℕ) → RowStops (a ++ x) → IsPassed a x → ⊥
stops_piece a x (inl brace) piece = brace_piece a x brace piece
stops_piece a x (inr ends) piece = ends.0 a x refl piece

pub passed_unique : (a x b y : List ℕ) → IsPassedOver a x → IsPassedOver b y → RowStops x
    → RowStops y → a ++ x ≡ b ++ y → Same a x b y
passed_unique a x b y first second stop end whole =
    row_unique IsPassed RowStops piece_unique stops_piece a x b y first second stop end whole

-- behind what is passed over up to nowhere there is no `{`
pub no_brace : (a x b y : List ℕ) → IsPassedOver a x → IsPassedOver b y → IsNowhere x
    → IsAtBrace y → a ++ x ≡ b ++ y → ⊥
no_brace a x b y first second ends brace whole =
    let same = passed_unique a x b y first second (inr ends) (inl brace) whole in
    ends.1 (subst IsAtBrace (sym same.rest) brace)

-- ---- what the code found at the front

-- the first byte, and those behind it
pub front_is : (bytes inside : List ℕ) (byte : ℕ) → 1 ≤ length bytes → get_or bytes 0 0 ≡ byte
    → inside ≡ drop 1 bytes → bytes ≡ byte ∷ inside
front_is [] inside byte some first rest = absurd (omega arith)
front_is (b ∷ bytes) inside byte some first rest = let behind : inside ≡ bytes = rest in cc

-- a quoted text
pub quoted_stands : (bytes inside : List ℕ) (len : ℕ) → bytes ≡ 34 ∷ inside → len ≤ length inside
    → EndsAtQuote (take len inside)
    → IsPassed (take (1 + len) bytes) (drop (1 + len) bytes)
quoted_stands bytes inside len is within quote =
    let more : 1 + len ≡ suc len = omega arith in
    inr (inl (take len inside, rw (is, more) refl, quote))

-- a quoted text of which no end is found
pub open_quoted : (bytes inside : List ℕ) → bytes ≡ 34 ∷ inside → IsRun InQuotes inside []
    → IsNowhere bytes
open_quoted bytes inside is run = (
  λ piece rest whole passed. nowhere piece rest (sym is ∙ whole) passed,
  λ brace. let at : 34 ≡ 123 = subst IsAtBrace is brace in absurd (omega arith),
) where
  nowhere : (piece rest : List ℕ) → 34 ∷ inside ≡ piece ++ rest → IsPassed piece rest → ⊥
  nowhere piece rest whole (inl separator) =
      token_separator Head piece rest (subst (IsAtToken Head) whole (quote_token inside)) separator
  nowhere piece rest whole (inr (inl quoted)) =
      let both : 34 ∷ inside ≡ 34 ∷ (quoted.0 ++ rest) = whole ∙ ap (λ xs. xs ++ rest) quoted.1 in
      let tail : inside ≡ quoted.0 ++ rest = cc in
      open_quote quoted.0 rest (subst (λ xs. IsRun InQuotes xs []) tail run) quoted.2
  nowhere piece rest whole (inr (inr other)) =
      let both : 34 ∷ inside ≡ other.0 ∷ rest = whole ∙ ap (λ xs. xs ++ rest) other.1 in
      let byte : other.0 ≡ 34 = cc in
      other.3 byte

-- a comment of which no end is found
unclosed_start : (p : ℕ) (bytes : List ℕ) → IsUnclosed Head (p ∷ bytes) → p ≡ 40
unclosed_start p [] unclosed = absurd unclosed
unclosed_start p (q ∷ bytes) unclosed = kinds unclosed.0 unclosed.1 where
  kinds : (kind : Comment) → Opens Head kind p q → p ≡ 40
  kinds Parens is = is.1
  kinds Slashes is = absurd is.0
  kinds Line is = absurd is.0

pub open_comment : (bytes : List ℕ) → IsUnclosed Head bytes → IsNowhere bytes
open_comment bytes unclosed = (
  λ piece rest whole passed. nowhere piece rest whole passed,
  λ brace. unclosed_token Head bytes unclosed (brace_token bytes brace),
) where
  nowhere : (piece rest : List ℕ) → bytes ≡ piece ++ rest → IsPassed piece rest → ⊥
  nowhere piece rest whole (inl separator) =
      unclosed_separator Head piece rest (subst (IsUnclosed Head) whole unclosed) separator
  nowhere piece rest whole (inr (inl quoted)) =
      let start = unclosed_start 34 (quoted.0 ++ rest)
      (subst (IsUnclosed Head) (whole ∙ ap (λ xs. xs ++ rest) quoted.1) unclosed) in
      absurd (omega arith)
  nowhere piece rest whole (inr (inr other)) =
      unclosed_token Head (other.0 ∷ rest)
      (subst (IsUnclosed Head) (whole ∙ ap (λ xs. xs ++ rest) other.1) unclosed) other.4

-- ---- the test's name, and the whole head

-- two titles at the front are one
pub title_unique : (bytes name rest name' rest' : List ℕ) → HasTitle bytes name rest
    → HasTitle bytes name' rest' → Same name rest name' rest'
title_unique bytes name rest name' rest' first second =
    let both : 67 ∷ (first.blanks ++ (name ++ rest)) ≡ 67 ∷ (second.blanks ++ (name' ++ rest')) =
    sym first.whole ∙ second.whole in
    let tail : first.blanks ++ (name ++ rest) ≡ second.blanks ++ (name' ++ rest') = cc in
    let blanks = run_unique Blank first.blanks (name ++ rest) second.blanks
    (name' ++ rest') first.blank second.blank tail in
    run_unique Graphic name rest name' rest' first.longest second.longest blanks.rest

-- a title begins where a token begins
pub title_token : (bytes name rest : List ℕ) → HasTitle bytes name rest → IsAtToken Head bytes
title_token bytes name rest title =
    subst (IsAtToken Head) (sym title.whole) (letter (title.blanks ++ (name ++ rest))) where
      letter : (more : List ℕ) → IsAtToken Head (67 ∷ more)
      letter [] = refl
      letter (b ∷ more) = (refl, opens b) where
        opens : (b : ℕ) (kind : Comment) → Opens Head kind 67 b → ⊥
        opens b Parens is = absurd (omega (arith, is.1))
        opens b Slashes is = is.0
        opens b Line is = is.0

-- two heads of a text are one
pub head_unique : (text name : List ℕ) (at : ℕ) (name' : List ℕ) (at' : ℕ) → IsHead text name at
    → IsHead text name' at' → (name ≡ name') × (at ≡ at')
head_unique text name at name' at' first second =
    let gaps = gap_unique Head first.gap first.titled second.gap second.titled first.separated
    second.separated
    (inl (title_token first.titled name first.behind first.title))
    (inl (title_token second.titled name' second.behind second.title))
    (sym first.whole ∙ second.whole) in
    let titles = title_unique second.titled name first.behind name' second.behind
    (subst (λ xs. HasTitle xs name first.behind) gaps.rest first.title) second.title in
    let passed = passed_unique first.passed first.rest second.passed second.rest first.passes
    second.passes (inl first.brace) (inl second.brace)
    (sym first.tail ∙ (titles.rest ∙ second.tail)) in
    let sizes : length first.rest ≡ length second.rest = ap length passed.rest in
    (titles.front, omega (arith, first.place, second.place))
