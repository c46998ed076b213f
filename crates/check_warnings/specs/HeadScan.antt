-- How the bytes of a head are gone over, one after the other.
use Rattle.std.specs.Prelude.{◌==◌, ◌&&◌, ◌+◌, ℕ, suc, List, [], ◌∷◌, Option, None, Some, drop, if◌then◌else◌, option_and_then, slice_index}
use Rattle.litmus_lex.specs.Bytes.{belongs}
use Rattle.litmus_lex.specs.declared.bytes.Class.TheVariants as classes
use Rattle.check_warnings.specs.declared.head_text.Step.{Step}
use Rattle.check_warnings.specs.declared.head_text.Step.TheVariants.{End, Text, To}
use Rattle.check_warnings.specs.declared.head_text.Within.{Within}
use Rattle.check_warnings.specs.declared.head_text.Within.TheVariants.{Blanks, Closing, Comment, Name, Opening, Pieces, Quotes}

-- the step at a byte that begins a piece, before this byte; 34 is '"', 40 '(', 41 ')', 42 '*' and 123 '{'
abbrev pub piece_step : (byte next : ℕ) → Step
piece_step byte next =
    if belongs classes.Blank byte then To Pieces
    else if byte == 34 then To Quotes
    else if byte == 123 then End
    else if byte == 40 && next == 42 then To Opening
    else Text

-- the step at a byte that stands so
abbrev pub step_of : Within → (byte next : ℕ) → Step
step_of Blanks byte next = if belongs classes.Blank byte then To Blanks else To Name
step_of Name byte next = if belongs classes.Graphic byte then To Name else piece_step byte next
step_of Pieces byte next = piece_step byte next
step_of Opening byte next = To Comment
step_of Comment byte next = if byte == 42 && next == 41 then To Closing else To Comment
step_of Closing byte next = To Pieces
step_of Quotes byte next = if byte == 34 then To Pieces else To Quotes

-- where text is first, after a step at this place
abbrev pub after_step : Step → (at : ℕ) → (Within → Option ℕ) → Option ℕ
after_step (To within) at later = later within
after_step Text at later = Some at
after_step End at later = None

-- where text is first in bytes, the first of which stands so and at this place; behind the last stands 0
abbrev pub text_at : Within → (at : ℕ) → List ℕ → Option ℕ
text_at within at [] = None
text_at within at (byte ∷ rest) = after_step (step_of within byte (slice_index rest 0)) at (λ next. text_at next (suc at) rest)

-- where text is first in a head, where the `C` stands at this place
abbrev pub text_behind : List ℕ → (letter : ℕ) → Option ℕ
text_behind text letter = text_at Blanks (letter + 1) (drop (letter + 1) text)

-- where text is first in a head, in which the `C` is the first byte of text
abbrev pub passed_text : List ℕ → Option ℕ
passed_text text = option_and_then (text_behind text) (text_at Pieces 0 text)
