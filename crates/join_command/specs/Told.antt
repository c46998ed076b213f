-- What is told of files of which `join` makes no whole search.
use Rattle.std.specs.Prelude.{◌≡◌, ◌<◌, ◌∷◌, [], ℕ, Err, List, None, Ok, Option, Result, Some, Vec, codes, length, slice_get}
use Rattle.std.specs.declared.alloc.AllocError.{AllocError}
use Rattle.std.specs.Borrow.{Bor}
use Rattle.std.specs.Fmt.{decimal}
use Rattle.std.specs.Global.{Global}
use Rattle.std.specs.List.{concat}
use Rattle.diagnostics.specs.declared.check_output.told.Lines.{Lines}
use Rattle.file_commands.specs.declared.complaint.Complaint.{Complaint}
use Rattle.file_commands.specs.declared.complaint.Complaint.TheVariants as complaints
use Rattle.file_commands.specs.declared.failure.Failure.TheVariants as failure
use Rattle.part_search.specs.part_file.Texts.{IsTextOf}
use Rattle.part_search.specs.part_file.Views.{PartView}
use Rattle.part_search.specs.part_file.Wholes.{IsFault}
use Rattle.part_search.specs.declared.part_file.part.Part.{Part}
use Rattle.part_search.specs.declared.part_file.text.PartError.{PartError}
use Rattle.part_search.specs.declared.part_file.text.PartError.TheVariants as errors
use Rattle.part_search.specs.declared.part_file.whole.PartFault.{PartFault}
use Rattle.part_search.specs.declared.part_file.whole.PartFault.TheVariants as faults
use Rattle.part_search.specs.declared.part_file.whole.PartsFault.{PartsFault}
use Rattle.part_search.specs.declared.part_file.whole.PartsFault.TheVariants as whole_faults
use Rattle.program_table.specs.text_pieces.Shown.{shown}

-- a part has at most so many bytes: 1 GiB
abbrev pub part_bytes : ℕ
part_bytes = 1073741824

-- why a text is not that of a part, where that isn't want of memory
abbrev pub error_words : PartError → Option (List ℕ)
error_words errors.OutOfMemory = None
error_words errors.CutShort = Some (codes "cut short")
error_words errors.NotJson = Some (codes "not JSON")
error_words errors.OtherFormat = Some (codes "not a part of a search, or of another version")
error_words errors.Changed = Some (codes "not as a part is written")

-- so a text is refused: it is longer than a part may be, or for no part is it the text
pub data IsNoPart (text why : List ℕ) : Type 0 where
  TooLong : part_bytes < length text → why ≡ codes "longer than a part may be" → IsNoPart text why
  OfNone : ((part : PartView) → IsTextOf part text → ⊥) → (error : PartError) → error_words error ≡ Some why → IsNoPart text why

-- the line that says this of the file of a name
unfoldable pub line_on : (name why : List ℕ) → List ℕ
line_on name why = concat (shown name ∷ codes ": " ∷ why ∷ codes "\n" ∷ [])

-- a text that says this of the first file
unfoldable pub of_first : (words first : List ℕ) → List ℕ
of_first words first = concat (words ∷ shown first ∷ [])

-- a text that says this of the part of a number, of so many
unfoldable pub numbered : (part parts : ℕ) → (words : List ℕ) → List ℕ
numbered part parts words = concat (codes "part " ∷ decimal part ∷ codes " of " ∷ decimal parts ∷ words ∷ [])

-- what is amiss with a part, where the first file has this name
abbrev pub fault_words : (first : List ℕ) → Part → PartFault → List ℕ
fault_words first part faults.OtherFile = of_first (codes "a part of another file than ") first
fault_words first part faults.OtherSettings = of_first (codes "a part of another search: other settings than ") first
fault_words first part faults.OutOfRange = numbered part.part part.parts (codes ", which isn't one")
fault_words first part faults.Twice = numbered part.part part.parts (codes " for the second time")

-- the line says what is amiss with the part at this place
pub record IsLineOnPart (files : List (Bor (List ℕ))) (parts : List Part) (place : ℕ) (fault : PartFault) (line : List ℕ) : Type 0 where
  pub first : Bor (List ℕ)
  pub begins : slice_get files 0 ≡ Some first
  pub name : Bor (List ℕ)
  pub name_is : slice_get files place ≡ Some name
  pub part : Part
  pub part_is : slice_get parts place ≡ Some part
  pub line_is : line ≡ line_on name.now (fault_words first.now part fault)

-- the line says that the part of this number is missing
pub record IsLineOnMissing (parts : List Part) (number : ℕ) (line : List ℕ) : Type 0 where
  pub first : Part
  pub begins : slice_get parts 0 ≡ Some first
  pub line_is : line ≡ numbered number first.parts (codes " is missing\n")

-- the line says why the parts that these files have are no whole search
abbrev pub IsFaultLine : (files : List (Bor (List ℕ))) → List Part → PartsFault → (line : List ℕ) → Type 0
IsFaultLine files parts whole_faults.NoPart line = line ≡ codes "no part\n"
IsFaultLine files parts (whole_faults.At place fault) line = IsLineOnPart files parts place fault line
IsFaultLine files parts (whole_faults.Missing number) line = IsLineOnMissing parts number line

-- what is told is this line
abbrev pub IsUnjoined : (line : List ℕ) → Complaint → Type 0
IsUnjoined line said = (lines : Lines) × (lines.bytes.items ≡ line) × (said ≡ complaints.Unjoined lines)

-- what is told is a line, or that there is no memory for it
abbrev pub IsSaidOf : Result (Vec ℕ Global) AllocError → Complaint → Type 0
IsSaidOf (Ok line) said = said ≡ complaints.Unjoined (record { bytes = line })
IsSaidOf (Err error) said = said ≡ complaints.Failure failure.OutOfMemory

-- the parts that these files have are no whole search, and it is to be told why
pub record AreNoWhole (files : List (Bor (List ℕ))) (parts : List Part) (said : Complaint) : Type 0 where
  pub fault : PartsFault
  pub is_fault : IsFault fault parts
  pub line : List ℕ
  pub line_is : IsFaultLine files parts fault line
  pub told : IsUnjoined line said
