-- Tables of lines by words.
use Rattle.std.specs.Prelude.{◌∷◌, [], ℕ, List, bytes_eq, if◌then◌else◌, nat_eq}
use Rattle.std.specs.List.{starts_with}
use Rattle.call_notes.specs.declared.note_rows.NoteRow.{NoteRow}

-- a word, or what words begin with, and the line on it
abbrev pub Row : Type 0
Row = List ℕ × List ℕ

-- that of a row
abbrev pub row_of : NoteRow → Row
row_of row = (row.0.now, row.1.now)

-- the line of the first row that has this word, or else this one
abbrev pub named_note : List Row → (word otherwise : List ℕ) → List ℕ
named_note [] word otherwise = otherwise
named_note (row ∷ rows) word otherwise = if bytes_eq word row.0 then row.1 else named_note rows word otherwise

-- the line of the first row that this word begins with, or else this one
abbrev pub begun_note : List Row → (word otherwise : List ℕ) → List ℕ
begun_note [] word otherwise = otherwise
begun_note (row ∷ rows) word otherwise =
    if starts_with nat_eq word row.0 then row.1 else begun_note rows word otherwise
