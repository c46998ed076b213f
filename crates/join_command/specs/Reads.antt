-- The files of the parts of a search, which are read one after the other.
use Rattle.std.specs.Prelude.{◌≡◌, ◌∷◌, ◌⊎◌, [], ℕ, List, Some, length, slice_get, true}
use Rattle.std.specs.Borrow.{Bor}
use Rattle.diagnostics.specs.check_output.Output.{unread_line}
use Rattle.diagnostics.specs.declared.check_output.told.Lines.{Lines}
use Rattle.file_commands.specs.Check.{IsLeftOver}
use Rattle.file_commands.specs.Desks.{DeskState}
use Rattle.file_commands.specs.Files.{Gave, noted}
use Rattle.file_commands.specs.declared.complaint.Complaint.{Complaint}
use Rattle.file_commands.specs.declared.complaint.Complaint.TheVariants as complaints
use Rattle.file_commands.specs.declared.failure.Failure.TheVariants as failure
use Rattle.join_command.specs.Told.{IsNoPart, IsUnjoined, line_on, part_bytes}
use Rattle.part_search.specs.part_file.Texts.{text_of}
use Rattle.part_search.specs.part_file.Views.{part_view}
use Rattle.part_search.specs.declared.part_file.part.Part.{Part}
use Rattle.report_text.specs.Sink.{CountsFailure}

-- once the file of a name gave this text
abbrev pub once_given : (name text : List ℕ) → DeskState → DeskState
once_given name text before = record before { files = noted before.files (Gave name part_bytes text) }

-- the first files, as many as these parts, were read in their order, and each gave the text of its part
abbrev pub AreRead : (files : List (Bor (List ℕ))) → (parts : List Part) → DeskState → DeskState → Type 0
AreRead files [] before after = after ≡ before
AreRead [] (part ∷ parts) before after = ⊥
AreRead (file ∷ files) (part ∷ parts) before after =
    AreRead files parts (once_given file.now (text_of (part_view part)) before) after

-- the text of a file of this name is that of no part, and it is to be told why it is refused
pub record IsRefusedText (name text : List ℕ) (said : Complaint) : Type 0 where
  pub why : List ℕ
  pub no_part : IsNoPart text why
  pub told : IsUnjoined (line_on name why) said

-- so it is with a file of this name, which was read
pub record IsRefused (name : List ℕ) (said : Complaint) (before after : DeskState) : Type 0 where
  pub text : List ℕ
  pub refused : IsRefusedText name text said
  pub read : after ≡ once_given name text before

-- it is to be told that a file of this name can't be read
pub record CannotBeRead (name : List ℕ) (said : Complaint) : Type 0 where
  pub lines : Lines
  pub text_is : lines.bytes.items ≡ unread_line name
  pub said_is : said ≡ complaints.Explained failure.CannotRead lines

-- so it is, and the read failed
pub record IsLost (name : List ℕ) (said : Complaint) (before after : DeskState) : Type 0 where
  pub lost : CannotBeRead name said
  pub failed : CountsFailure before.faults after.faults
  pub rest : after ≡ record before { faults = after.faults }

-- the file of this name has no part: this is to be told
abbrev pub IsStopped : (name : List ℕ) → Complaint → DeskState → DeskState → Type 0
IsStopped name said before after = IsRefused name said before after ⊎ IsLost name said before after

-- the first files, as many as these parts, were read, and the next has no part
pub record StopsReading (files : List (Bor (List ℕ))) (said : Complaint) (before after : DeskState) : Type 0 where
  pub parts : List Part
  pub middle : DeskState
  pub read : AreRead files parts before middle
  pub file : Bor (List ℕ)
  pub next : slice_get files (length parts) ≡ Some file
  pub stops : IsStopped file.now said middle after

-- memory ran out over a file, or over what is printed: those before it were read
pub record AreLeft (files : List (Bor (List ℕ))) (before after : DeskState) : Type 0 where
  pub parts : List Part
  pub middle : DeskState
  pub read : AreRead files parts before middle
  pub over : IsLeftOver true middle after
