-- Which bytes spell which token; what no grammar takes (too large, stray, not closed) is a token too.
use Rattle.std.specs.Prelude.{◌≡◌, ◌⊎◌, ◌^◌, ◌<◌, ◌≤◌, ℕ, List, [], ◌∷◌, ◌++◌, Option, Some, None, true, false, length}
use Rattle.std.specs.Str.Parse.{digits_value}
use Rattle.litmus_lex.specs.declared.bytes.Class.TheVariants.{NameStart, NamePart, Digit, HexDigit}
use Rattle.litmus_lex.specs.declared.sign.Sign.{Sign}
use Rattle.litmus_lex.specs.declared.token.Token.{Token}
use Rattle.litmus_lex.specs.declared.token.Token.TheVariants as tokens
use Rattle.litmus_lex.specs.Bytes.{belongs, IsRun}
use Rattle.litmus_lex.specs.Sign.{sign_bytes, Begins, IsLongestSign}

-- a token apart from where its bytes lie in memory. A number of 2^64 or more, a byte that begins
-- no token and a comment that doesn't end are tokens too, which no grammar takes
pub data Terminal : Type 0 where
  name : List ℕ → Terminal
  number : ℕ → Terminal
  sign : Sign → Terminal
  too_large : Terminal
  stray : Terminal
  unclosed : Terminal

-- what a token of the code is, and none at the end of the text
abbrev pub terminal_of : Token → Option Terminal
terminal_of (tokens.Name bytes) = Some (name bytes.now)
terminal_of (tokens.Number value) = Some (number value)
terminal_of (tokens.Sign s) = Some (sign s)
terminal_of tokens.TooLarge = Some too_large
terminal_of tokens.Stray = Some stray
terminal_of tokens.Unclosed = Some unclosed
terminal_of tokens.End = None

-- a letter or `_`, and all letters, digits and `_` after it
abbrev pub IsName : List ℕ → List ℕ → Type 0
IsName [] rest = ⊥
IsName (first ∷ others) rest = (belongs NameStart first ≡ true) × IsRun NamePart others rest

-- a hexadecimal number begins here: `0x` and a hexadecimal digit; 48 is '0' and 120 is 'x'
abbrev pub BeginsHexadecimal : List ℕ → Type 0
BeginsHexadecimal [] = ⊥
BeginsHexadecimal (a ∷ []) = ⊥
BeginsHexadecimal (a ∷ b ∷ []) = ⊥
BeginsHexadecimal (a ∷ b ∷ c ∷ bytes) = (a ≡ 48) × (b ≡ 120) × (belongs HexDigit c ≡ true)

-- `0x` and all hexadecimal digits after it
pub record IsHexadecimal (bytes rest : List ℕ) (value : ℕ) : Type 0 where
  pub digits : List ℕ
  pub spelled : bytes ≡ 48 ∷ 120 ∷ digits
  pub some : 0 < length digits
  pub run : IsRun HexDigit digits rest
  pub is : value ≡ digits_value 16 digits

-- all decimal digits from here on
pub record IsDecimal (bytes rest : List ℕ) (value : ℕ) : Type 0 where
  pub some : 0 < length bytes
  pub run : IsRun Digit bytes rest
  pub plain : ¬ BeginsHexadecimal (bytes ++ rest)
  pub is : value ≡ digits_value 10 bytes

-- the bytes are a number before the rest, of this value
abbrev pub IsNumber : List ℕ → List ℕ → ℕ → Type 0
IsNumber bytes rest value = IsHexadecimal bytes rest value ⊎ IsDecimal bytes rest value

-- a byte that begins no token stands before the rest
pub record IsStray (byte : ℕ) (rest : List ℕ) : Type 0 where
  pub no_name : belongs NameStart byte ≡ false
  pub no_number : belongs Digit byte ≡ false
  pub no_sign : (s : Sign) → ¬ Begins s (byte ∷ rest)

-- the bytes spell the terminal, before the rest
abbrev pub Spells : Terminal → List ℕ → List ℕ → Type 0
Spells (name bytes) spelled rest = (bytes ≡ spelled) × IsName spelled rest
Spells (number value) spelled rest = IsNumber spelled rest value × (value < 2 ^ 64)
Spells (sign s) spelled rest = (spelled ≡ sign_bytes s) × IsLongestSign s (spelled ++ rest)
Spells too_large spelled rest = (value : ℕ) × IsNumber spelled rest value × (2 ^ 64 ≤ value)
Spells stray spelled rest = (byte : ℕ) × (spelled ≡ byte ∷ []) × IsStray byte rest
Spells unclosed spelled rest = rest ≡ []
