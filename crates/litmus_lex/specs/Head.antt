-- The head of a text: the test's name, and what is passed over up to the brace at which its tokens begin.
use Rattle.std.specs.Prelude.{◌≡◌, ◌≢◌, ◌⊎◌, ◌+◌, ◌<◌, ℕ, List, [], ◌∷◌, ◌++◌, length}
use Rattle.litmus_lex.specs.declared.bytes.Class.TheVariants.{Blank, Graphic, InQuotes}
use Rattle.litmus_lex.specs.declared.token.Part.TheVariants.{Head, Init}
use Rattle.litmus_lex.specs.Bytes.{IsRow, IsRun}
use Rattle.litmus_lex.specs.Gap.{IsAtToken, IsGap, IsSeparator}
use Rattle.litmus_lex.specs.Tokens.{Placed, TokensAt}

-- the bytes go on to the next double quote, which is their last; 34 is '"'
abbrev pub EndsAtQuote : List ℕ → Type 0
EndsAtQuote bytes =
    (quoted : List ℕ) × (bytes ≡ quoted ++ 34 ∷ []) × IsRun InQuotes quoted (34 ∷ [])

-- a text in double quotes
abbrev pub IsQuoted : List ℕ → Type 0
IsQuoted piece = (inside : List ℕ) × (piece ≡ 34 ∷ inside) × EndsAtQuote inside

-- a byte before the rest that begins no blank, no comment, no quoted text and no block; 123 is '{'
abbrev pub IsOther : List ℕ → List ℕ → Type 0
IsOther piece rest =
    (byte : ℕ) × (piece ≡ byte ∷ []) × (byte ≢ 123) × (byte ≢ 34) × IsAtToken Head (byte ∷ rest)

-- what the head passes over before the rest: a blank or a comment, a quoted text, or another byte
abbrev pub IsPassed : List ℕ → List ℕ → Type 0
IsPassed piece rest = IsSeparator Head piece rest ⊎ (IsQuoted piece ⊎ IsOther piece rest)

-- all that the head passes over before the rest
abbrev pub IsPassedOver : List ℕ → List ℕ → Type 0
IsPassedOver passed rest = IsRow IsPassed passed rest

-- the initialization block begins here
abbrev pub IsAtBrace : List ℕ → Type 0
IsAtBrace [] = ⊥
IsAtBrace (first ∷ bytes) = first ≡ 123

-- `C`, blanks and the test's name stand before the rest; 67 is 'C'
pub record HasTitle (bytes name rest : List ℕ) : Type 0 where
  pub blanks : List ℕ
  pub whole : bytes ≡ 67 ∷ (blanks ++ (name ++ rest))
  pub some_blank : 0 < length blanks
  pub blank : IsRun Blank blanks (name ++ rest)
  pub some_name : 0 < length name
  pub longest : IsRun Graphic name rest

-- the head of a text: blanks and comments, `C`, blanks, the test's name, and what is passed over
-- up to the
-- first `{`, which stands at the place
pub record IsHead (text name : List ℕ) (at : ℕ) : Type 0 where
  pub gap : List ℕ
  pub titled : List ℕ
  pub behind : List ℕ
  pub passed : List ℕ
  pub rest : List ℕ
  pub whole : text ≡ gap ++ titled
  pub separated : IsGap Head gap titled
  pub title : HasTitle titled name behind
  pub tail : behind ≡ passed ++ rest
  pub passes : IsPassedOver passed rest
  pub brace : IsAtBrace rest
  pub place : at + length rest ≡ length text

-- a text has this test's name, and these tokens after its head
pub record IsText (text name : List ℕ) (tokens : List Placed) : Type 0 where
  pub at : ℕ
  pub head : IsHead text name at
  pub body : TokensAt text Init at tokens
