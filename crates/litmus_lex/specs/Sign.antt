-- The bytes of each sign, and which sign bytes begin with: always the longest that stands there.
use Rattle.std.specs.Prelude.{◌≡◌, ◌≤◌, ℕ, List, ◌++◌, length, codes}
use Rattle.litmus_lex.specs.declared.sign.Sign.{Sign}
use Rattle.litmus_lex.specs.declared.sign.Sign.TheVariants.{OpenBrace, CloseBrace, OpenParen, CloseParen, OpenBracket, CloseBracket, Semicolon, Comma, Colon, Assign}
use Rattle.litmus_lex.specs.declared.sign.Sign.TheVariants.{AddAssign, Increment, Plus, Minus, Star, Tilde, Not, Ampersand, Caret, Bar}
use Rattle.litmus_lex.specs.declared.sign.Sign.TheVariants.{Less, Greater, LessEqual, GreaterEqual, Equal, NotEqual, Conjunction, Disjunction, Slash, Percent}
use Rattle.litmus_lex.specs.declared.sign.Sign.TheVariants.{ShiftLeft, ShiftRight, LogicalAnd, LogicalOr, Question}

-- the bytes of a sign
abbrev pub sign_bytes : Sign → List ℕ
sign_bytes OpenBrace = codes "{"
sign_bytes CloseBrace = codes "}"
sign_bytes OpenParen = codes "("
sign_bytes CloseParen = codes ")"
sign_bytes OpenBracket = codes "["
sign_bytes CloseBracket = codes "]"
sign_bytes Semicolon = codes ";"
sign_bytes Comma = codes ","
sign_bytes Colon = codes ":"
sign_bytes Assign = codes "="
sign_bytes AddAssign = codes "+="
sign_bytes Increment = codes "++"
sign_bytes Plus = codes "+"
sign_bytes Minus = codes "-"
sign_bytes Star = codes "*"
sign_bytes Tilde = codes "~"
sign_bytes Not = codes "!"
sign_bytes Ampersand = codes "&"
sign_bytes Caret = codes "^"
sign_bytes Bar = codes "|"
sign_bytes Less = codes "<"
sign_bytes Greater = codes ">"
sign_bytes LessEqual = codes "<="
sign_bytes GreaterEqual = codes ">="
sign_bytes Equal = codes "=="
sign_bytes NotEqual = codes "!="
sign_bytes Conjunction = codes "/\\"
sign_bytes Disjunction = codes "\\/"
sign_bytes Slash = codes "/"
sign_bytes Percent = codes "%"
sign_bytes ShiftLeft = codes "<<"
sign_bytes ShiftRight = codes ">>"
sign_bytes LogicalAnd = codes "&&"
sign_bytes LogicalOr = codes "||"
sign_bytes Question = codes "?"

-- the sign stands at the front
abbrev pub Begins : Sign → List ℕ → Type 0
Begins sign bytes = (rest : List ℕ) × (bytes ≡ sign_bytes sign ++ rest)

-- the sign stands at the front, and no longer one
pub record IsLongestSign (sign : Sign) (bytes : List ℕ) : Type 0 where
  pub begins : Begins sign bytes
  pub longest : (other : Sign) → Begins other bytes
      → length (sign_bytes other) ≤ length (sign_bytes sign)
