-- What a cursor has left to read: its spots, how many they are, and the token that is next, or the end.
use Rattle.std.specs.Prelude.{ℕ, List, [], ◌∷◌, Bool, Option, Some, None, true, false, length}
use Rattle.litmus_lex.specs.declared.token.Token.{Token}
use Rattle.litmus_lex.specs.declared.token.Token.TheVariants.{Name, Number, Sign, TooLarge, Stray, Unclosed, End}
use Rattle.litmus_lex.specs.declared.cursor.Spot.{Spot}
use Rattle.litmus_lex.specs.declared.cursor.Cursor.{Cursor}
use Rattle.litmus_lex.specs.declared.cursor.Refusal.{Refusal}
use Rattle.litmus_lex.specs.declared.cursor.Refusal.TheVariants.{OutOfMemory, Syntax, Unsupported, Limit}

-- the tokens that are left, without the end
abbrev pub spots_left : Cursor → List Spot
spots_left cursor = cursor.left.now

-- how many they are
abbrev pub count_left : Cursor → ℕ
count_left cursor = length cursor.left.now

-- the token is the end of the text
abbrev pub is_end : Token → Bool
is_end (Name name) = false
is_end (Number value) = false
is_end (Sign sign) = false
is_end TooLarge = false
is_end Stray = false
is_end Unclosed = false
is_end End = true

-- the token that is next, or the end
abbrev pub next_of : List Spot → Token
next_of [] = End
next_of (spot ∷ rest) = spot.token

-- what is left after it
abbrev pub rest_of : List Spot → List Spot
rest_of [] = []
rest_of (spot ∷ rest) = rest

-- where the first of these tokens begins, or the text ends
abbrev pub begin_of : List Spot → ℕ → ℕ
begin_of [] end = end
begin_of (spot ∷ rest) end = spot.at

-- where the token that is next begins
abbrev pub place_left : Cursor → ℕ
place_left cursor = begin_of cursor.left.now cursor.end

-- where the token begins that offends
abbrev pub refused_at : Refusal → Option ℕ
refused_at OutOfMemory = None
refused_at (Syntax at fault expected) = Some at
refused_at (Unsupported at unread expected) = Some at
refused_at (Limit at excess) = Some at
