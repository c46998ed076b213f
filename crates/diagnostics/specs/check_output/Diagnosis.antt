-- What was found of files that were checked in their order, and what is printed of them.
use Rattle.std.specs.Prelude.{◌++◌, ℕ, Bool, List, [], count_by, false, if◌then◌else◌, length, map, max, fold, true}
use Rattle.std.specs.List.{flat_map}
use Rattle.std.specs.String.{string_bytes}
use Rattle.diagnostics.specs.check_output.Output.{last_line, read_text}
use Rattle.diagnostics.specs.declared.check_output.file.Files.{Files}
use Rattle.prepared_program.specs.declared.program_sites.settings.Settings.{Settings}
use Rattle.diagnostics.specs.text_check.Check.{IsCheckOf}
use Rattle.diagnostics.specs.declared.text_check.checked.Check.{Check}
use Rattle.diagnostics.specs.declared.text_check.checked.Check.TheVariants.{Misplaced, Reads, Refused}

-- a file of a name gave a text, of which this is the check, or it can't be read
pub data Diagnosis : Type 0 where
  Gave : (name text : List ℕ) → (check : Check) → Diagnosis
  Lost : (name : List ℕ) → Diagnosis

abbrev pub name_of : Diagnosis → List ℕ
name_of (Gave name text check) = name
name_of (Lost name) = name

-- what the check says is so of the text
abbrev pub IsFound : Settings → Diagnosis → Type 0
IsFound settings (Gave name text check) = IsCheckOf name text settings check
IsFound settings (Lost name) = Unit {0}

-- it is read, and has tables
abbrev pub has_tables : Diagnosis → Bool
has_tables (Gave name text (Reads tables printed warnings)) = true
has_tables (Gave name text (Misplaced why)) = false
has_tables (Gave name text (Refused error why)) = false
has_tables (Lost name) = false

-- what is printed of it: nothing where it has no tables
abbrev pub text_of : Files → Diagnosis → List ℕ
text_of files (Gave name text (Reads tables printed warnings)) = read_text files name tables.items (string_bytes printed)
text_of files (Gave name text (Misplaced why)) = []
text_of files (Gave name text (Refused error why)) = []
text_of files (Lost name) = []

-- what is printed of all files: of several with a last line that says how many are read
abbrev pub output_of : Files → List Diagnosis → List ℕ
output_of files founds =
    flat_map (text_of files) founds ++ (if files.several then last_line (count_by has_tables founds) (length founds) else [])

-- the status that a file alone ends with
abbrev pub status_of_one : Diagnosis → ℕ
status_of_one (Gave name text (Reads tables printed warnings)) = 0
status_of_one (Gave name text (Misplaced why)) = 64
status_of_one (Gave name text (Refused error why)) = 65
status_of_one (Lost name) = 66

-- the greatest of these statuses: that of all files
abbrev pub greatest_status : List Diagnosis → ℕ
greatest_status founds = fold max 0 (map status_of_one founds)
