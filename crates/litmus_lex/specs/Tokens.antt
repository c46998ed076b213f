-- The tokens of a text with their places, and what it means that a token is the next one from a place on.
use Rattle.std.specs.Prelude.{◌≡◌, ◌↔◌, ◌+◌, ℕ, List, [], ◌∷◌, ◌++◌, Option, Some, None, length, drop}
use Rattle.litmus_lex.specs.declared.sign.Sign.TheVariants.{OpenBrace, CloseBrace}
use Rattle.litmus_lex.specs.declared.token.Part.{Part}
use Rattle.litmus_lex.specs.declared.token.SourcePosition.{SourcePosition}
use Rattle.litmus_lex.specs.declared.token.Lexeme.{Lexeme}
use Rattle.litmus_lex.specs.Part.{opened, closed}
use Rattle.litmus_lex.specs.Gap.{IsGap, IsAtToken, IsUnclosed}
use Rattle.litmus_lex.specs.Token.{Terminal, sign, unclosed, terminal_of, Spells}

-- a token of a text, and how many bytes stand before it
pub record Placed : Type 0 where
  pub terminal : Terminal
  pub at : ℕ

-- the part of the text after a token: braces change it
abbrev pub part_after : Part → Terminal → Part
part_after part (sign OpenBrace) = opened part
part_after part (sign CloseBrace) = closed part
part_after part _ = part

-- the part of the text behind a token, or at the end
abbrev pub part_behind : Part → Option Terminal → Part
part_behind part None = part
part_behind part (Some terminal) = part_after part terminal

-- the token begins where no blank and no comment does, and an open comment is one
abbrev pub StartsAt : Part → Terminal → List ℕ → Type 0
StartsAt part unclosed bytes = IsUnclosed part bytes
StartsAt part _ bytes = IsAtToken part bytes

-- the place of a token: of its first byte, and of an open comment the end of the text
abbrev pub place_of : Terminal → ℕ → List ℕ → ℕ
place_of unclosed at spelled = at + length spelled
place_of _ at spelled = at

-- the first token of the bytes, which stand at a place: blanks and comments, the bytes that spell
-- it, and the bytes after it
pub record First (part : Part) (at : ℕ) (bytes : List ℕ) (token : Placed) : Type 0 where
  pub gap : List ℕ
  pub spelled : List ℕ
  pub rest : List ℕ
  pub whole : bytes ≡ gap ++ (spelled ++ rest)
  pub separated : IsGap part gap (spelled ++ rest)
  pub starts : StartsAt part token.terminal (spelled ++ rest)
  pub spells : Spells token.terminal spelled rest
  pub place : token.at ≡ place_of token.terminal (at + length gap) spelled

-- the tokens of the bytes, which are the rest of a text and stand at a place in this part of it
abbrev pub AreTokens : Part → ℕ → List ℕ → List Placed → Type 0
AreTokens part at bytes [] = IsGap part bytes []
AreTokens part at bytes (token ∷ tokens) =
    (first : First part at bytes token)
    × AreTokens (part_after part token.terminal)
    (at + length first.gap + length first.spelled) first.rest tokens

-- the tokens of a text from a place on, which is in this part of the text: told apart, and as one
abbrev pub TokensAt : List ℕ → Part → ℕ → List Placed → Type 0
TokensAt text part at tokens = AreTokens part at (drop at text) tokens

abbrev pub TokensFrom : List ℕ → SourcePosition → List Placed → Type 0
TokensFrom text place tokens = TokensAt text place.part place.at tokens

-- the tokens from a place on are the terminal, which stands at its own place, and those from the
-- place behind it on; without a terminal there are none
abbrev pub Continues : List ℕ → SourcePosition → Option Terminal → ℕ → Part → ℕ → Type 0
Continues text place None at part next =
    (tokens : List Placed) → TokensFrom text place tokens ↔ (tokens ≡ [])
Continues text place (Some terminal) at part next =
    (tokens : List Placed) → TokensFrom text place tokens
    ↔ ((rest : List Placed) × (tokens ≡ record { terminal = terminal; at = at } ∷ rest)
    × TokensAt text part next rest)

-- what the text goes on with from the place is this token
abbrev pub IsNext : List ℕ → SourcePosition → Lexeme → Type 0
IsNext text place lexeme =
    Continues text place (terminal_of lexeme.token) lexeme.at lexeme.after.part lexeme.after.at
