-- Where sites stand in a text, and what is written there.
use Rattle.std.specs.Prelude.{◌==◌, ◌||◌, ◌+◌, ℕ, Bool, List, [], ◌∷◌, None, Option, Some, codes, drop, if◌then◌else◌, length, nat_le, reverse, take}
use Rattle.std.specs.Fmt.{decimal}
use Rattle.std.specs.List.{concat}
use Rattle.litmus_lex.specs.Lines.{column_at, line_at}
use Rattle.program_table.specs.Rows.{place_in}
use Rattle.program_table.specs.text_pieces.Shown.{cut, shown}
use Rattle.races.specs.declared.pair.SiteName.{SiteName}

-- a place, if it lies in the text or at its end
abbrev pub within : List ℕ → Option ℕ → Option ℕ
within text None = None
within text (Some at) = if nat_le at (length text) then Some at else None

-- the place of a site among these, if it is there and in the text
abbrev pub place_of : (text : List ℕ) → (places : List (List ℕ)) → SiteName → Option ℕ
place_of text places at = within text (place_in places at.task at.site)

-- the line and the column of a place, or `-` where it isn't known
abbrev pub spot_text : (text : List ℕ) → Option ℕ → List ℕ
spot_text text None = codes "-"
spot_text text (Some at) = concat (decimal (line_at text at) ∷ codes ":" ∷ decimal (column_at text at) ∷ [])

-- a statement ends at a `;`, and what is shown of it at the end of its line
abbrev pub is_end : ℕ → Bool
is_end byte = (byte == 59) || (byte == 10)

-- how many bytes at the front are the statement that begins there
abbrev pub statement_len : List ℕ → ℕ
statement_len [] = 0
statement_len (byte ∷ more) = if byte == 59 then 1 else if byte == 10 then 0 else statement_len more + 1

-- a blank, a tab or a carriage return
abbrev pub is_blank : ℕ → Bool
is_blank byte = (byte == 32) || ((byte == 9) || (byte == 13))

-- the bytes from the first on that is no blank
abbrev pub from_text : List ℕ → List ℕ
from_text [] = []
from_text (byte ∷ more) = if is_blank byte then from_text more else byte ∷ more

-- the bytes without the blanks at their end
abbrev pub without_blanks : List ℕ → List ℕ
without_blanks bytes = reverse (from_text (reverse bytes))

-- a statement begins behind the end of another, a brace, or the end of a line
abbrev pub is_start : ℕ → Bool
is_start byte = (byte == 59) || ((byte == 123) || ((byte == 125) || (byte == 10)))

-- the bytes from the first on behind which a statement begins
abbrev pub from_start : List ℕ → List ℕ
from_start [] = []
from_start (byte ∷ more) = if is_start byte then byte ∷ more else from_start more

-- the bytes up to and with the last such
abbrev pub up_to_start : List ℕ → List ℕ
up_to_start bytes = reverse (from_start (reverse bytes))

-- the statement with what follows it
abbrev pub from_statement : (text : List ℕ) → (at : ℕ) → List ℕ
from_statement text at = from_text (drop (length (up_to_start (take at text))) text)

-- the statement in which a place stands, as far as it stands in the line
unfoldable pub statement_at : (text : List ℕ) → (at : ℕ) → List ℕ
statement_at text at = without_blanks (take (statement_len (from_statement text at)) (from_statement text at))

-- the same, as it is shown behind two blanks in so many columns; nothing where the place isn't known
abbrev pub statement_text : (text : List ℕ) → Option ℕ → (room : ℕ) → List ℕ
statement_text text None room = []
statement_text text (Some at) room = concat (codes "  " ∷ cut (shown (statement_at text at)) room ∷ [])
