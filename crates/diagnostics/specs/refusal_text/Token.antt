-- The token that a message names: the one that the text goes on with at a place.
use Rattle.std.specs.Prelude.{◌≡◌, ◌==◌, ◌||◌, ℕ, List, [], Bool, Option, None, Some, drop, not, take}
use Rattle.std.specs.Char.{is_ascii_alphanumeric}
use Rattle.std.specs.List.{position_or_len}
use Rattle.litmus_lex.specs.Sign.{sign_bytes}
use Rattle.litmus_lex.specs.Token.{Terminal, terminal_of}
use Rattle.litmus_lex.specs.Token as terminals
use Rattle.litmus_lex.specs.Tokens.{IsNext}
use Rattle.litmus_lex.specs.declared.token.Lexeme.{Lexeme}
use Rattle.litmus_lex.specs.declared.token.Part.TheVariants.{Body}
use Rattle.litmus_lex.specs.declared.token.SourcePosition.{SourcePosition}

-- a letter, a digit or `_`
abbrev pub is_name_byte : ℕ → Bool
is_name_byte byte = byte == 95 || is_ascii_alphanumeric byte

abbrev pub is_no_name_byte : ℕ → Bool
is_no_name_byte byte = not (is_name_byte byte)

-- the bytes of a number at the front: digits, and the letters behind them
abbrev pub number_at : List ℕ → List ℕ
number_at bytes = take (position_or_len is_no_name_byte bytes) bytes

-- the bytes of a token that stands at the front of these: none where none is left
abbrev pub bytes_of : (bytes : List ℕ) → Option Terminal → List ℕ
bytes_of bytes (Some (terminals.name name)) = name
bytes_of bytes (Some (terminals.number value)) = number_at bytes
bytes_of bytes (Some (terminals.sign sign)) = sign_bytes sign
bytes_of bytes (Some terminals.too_large) = number_at bytes
bytes_of bytes (Some terminals.stray) = take 1 bytes
bytes_of bytes (Some terminals.unclosed) = []
bytes_of bytes None = []

-- these are the bytes of the token that the text goes on with at the place, as in the body of a process
pub record IsTokenAt (text : List ℕ) (at : ℕ) (token : List ℕ) : Type 0 where
  pub place : SourcePosition
  pub there : place.at ≡ at
  pub part : place.part ≡ Body 0
  pub lexeme : Lexeme
  pub next : IsNext text place lexeme
  pub is : token ≡ bytes_of (drop at text) (terminal_of lexeme.token)
