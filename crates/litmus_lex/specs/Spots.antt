-- The spots of a cursor are the tokens of its text from a place on, and no others.
use Rattle.std.specs.Prelude.{◌≡◌, ◌↔◌, ℕ, List, [], ◌∷◌, Some}
use Rattle.litmus_lex.specs.declared.token.SourcePosition.{SourcePosition}
use Rattle.litmus_lex.specs.Token.{terminal_of}
use Rattle.litmus_lex.specs.Tokens.{Placed, TokensFrom}
use Rattle.litmus_lex.specs.declared.cursor.Spot.{Spot}

-- tokens of the code, at their places, are these
abbrev pub AreSpots : List Spot → List Placed → Type 0
AreSpots [] [] = Unit {0}
AreSpots [] (token ∷ tokens) = ⊥
AreSpots (spot ∷ spots) [] = ⊥
AreSpots (spot ∷ spots) (token ∷ tokens) =
    (terminal_of spot.token ≡ Some token.terminal) × ((spot.at ≡ token.at) × AreSpots spots tokens)

-- these are the tokens of the text from the place on, and no others are
abbrev pub AreTokensFrom : List ℕ → SourcePosition → List Spot → Type 0
AreTokensFrom text start spots = (tokens : List Placed) → TokensFrom text start tokens ↔ AreSpots spots tokens
