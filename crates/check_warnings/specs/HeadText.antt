-- Text in the head of a litmus text that is passed over, and is no blank, no comment and no text in double quotes.
use Rattle.std.specs.Prelude.{◌+◌, ◌-◌, ℕ, List, [], ◌∷◌, Option, None, Some, length}
use mathlib.Core.Logic.{inl, inr}
use Rattle.litmus_lex.specs.Bytes.{InRow}
use Rattle.litmus_lex.specs.Head.{IsHead, IsPassed}

-- a piece is passed over at this place: here such text is first, if the piece is a byte of it, and else in the later
-- ones
abbrev pub first_text : (piece rest : List ℕ) → IsPassed piece rest → (at : ℕ) → (later : Option ℕ) → Option ℕ
first_text piece rest (inl separator) at later = later
first_text piece rest (inr (inl quoted)) at later = later
first_text piece rest (inr (inr text)) at later = Some at

-- where such text is first in pieces that a head passes over, the first of which stands at this place
abbrev pub text_from : (at : ℕ) (pieces : List (List ℕ)) (rest : List ℕ) → InRow IsPassed pieces rest → Option ℕ
text_from at [] rest row = None
text_from at (piece ∷ pieces) rest row = first_text piece _ row.0 at (text_from (at + length piece) pieces rest row.1)

-- where such text is first in a head
abbrev pub text_in : {text name : List ℕ} {at : ℕ} → IsHead text name at → Option ℕ
text_in {text} head = text_from (length text - length head.behind) head.passes.0 head.rest head.passes.2
