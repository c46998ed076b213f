-- What is written of a file that was checked, and of several.
use Rattle.std.specs.Prelude.{◌≡◌, ℕ, Bool, List, [], ◌∷◌, codes, if◌then◌else◌}
use Rattle.std.specs.Fmt.{decimal}
use Rattle.std.specs.List.{concat}
use Rattle.std.specs.String.{string_bytes}
use Rattle.diagnostics.specs.declared.check_output.file.Comes.{Comes}
use Rattle.diagnostics.specs.declared.check_output.file.Comes.TheVariants as comes
use Rattle.diagnostics.specs.declared.check_output.file.Files.{Files}
use Rattle.diagnostics.specs.declared.text_check.checked.Check.{Check}
use Rattle.diagnostics.specs.declared.text_check.checked.Check.TheVariants.{Misplaced, Reads, Refused}
use Rattle.program_table.specs.text_pieces.Shown.{shown}

-- the tables of a program, and behind an empty line its printed form, where that is wanted
unfoldable pub program_text : (print : Bool) → (tables printed : List ℕ) → List ℕ
program_text print tables printed = if print then concat (tables ∷ codes "\n" ∷ printed ∷ []) else tables

-- what is printed of a file that is read: of several, under its name, with an empty line behind
unfoldable pub read_text : Files → (name tables printed : List ℕ) → List ℕ
read_text files name tables printed =
    let program = program_text files.print tables printed in
    if files.several then concat (shown name ∷ codes ":\n\n" ∷ program ∷ codes "\n" ∷ []) else program

-- what is told of a file that the places don't suit: of several, behind its name
unfoldable pub misplaced_text : Files → (name line : List ℕ) → List ℕ
misplaced_text files name line = if files.several then concat (shown name ∷ codes ": " ∷ line ∷ []) else line

-- what is told of one of several files that can't be read
unfoldable pub unread_line : (name : List ℕ) → List ℕ
unread_line name = concat (shown name ∷ codes ": can't be read\n" ∷ [])

-- how many of how many files are read
unfoldable pub last_line : (read all : ℕ) → List ℕ
last_line read all = concat (decimal read ∷ codes " of " ∷ decimal all ∷ codes " files are read\n" ∷ [])

-- this comes of a file of a name whose text was checked so
abbrev pub IsMadeOf : Files → (name : List ℕ) → Check → Comes → Type 0
IsMadeOf files name (Reads tables printed warnings) (comes.Read text told) =
    (text.items ≡ read_text files name tables.items (string_bytes printed)) × (told ≡ warnings)
IsMadeOf files name (Misplaced why) (comes.Misplaced line) = line.items ≡ misplaced_text files name why.items
IsMadeOf files name (Refused error why) (comes.Refused other lines) = (other ≡ error) × (lines ≡ why)
IsMadeOf files name check made = ⊥
