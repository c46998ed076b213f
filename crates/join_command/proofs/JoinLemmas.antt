-- Files of parts that are read, and how that ends.
use Rattle.std.proofs.Common.{◌≡◌, ◌∙◌, ◌⊎◌, ◌++◌, ◌∷◌, [], ℕ, Bor, Err, IfOk, List, None, Ok, Option, Result, Some, Vec, ap, inl, inr, length, refl, subst, sym, true}
use Rattle.std.proofs.lemmas.Option.{same_Some}
use Rattle.std.specs.declared.alloc.AllocError.{AllocError}
use Rattle.std.specs.Global.{Global}
use Rattle.std.specs.List.{slice_get}
use Rattle.file_commands.specs.Check.{IsLeftOver}
use Rattle.file_commands.specs.Desks.{DeskState}
use Rattle.file_commands.specs.Files.{FileEvent}
use Rattle.file_commands.specs.declared.complaint.Complaint.{Complaint}
use Rattle.file_commands.specs.declared.complaint.Complaint.TheVariants as complaints
use Rattle.file_commands.specs.declared.failure.Failure.TheVariants as failure
use Rattle.join_command.specs.Reads.{AreRead, once_given}
use Rattle.join_command.specs.Told.{IsSaidOf, IsUnjoined, part_bytes}
use Rattle.part_search.specs.part_file.Texts.{text_of}
use Rattle.part_search.specs.part_file.Views.{part_view}
use Rattle.part_search.specs.declared.part_file.part.Part.{Part}

-- a line is told, or there is no memory for it
pub said_so : (Holds : List ℕ → Type 0) (line : Result (Vec ℕ Global) AllocError) (said : Complaint) → IfOk line (λ own. Holds own.items)
    → IsSaidOf line said
    → ((text : List ℕ) × Holds text × IsUnjoined text said) ⊎ (said ≡ complaints.Failure failure.OutOfMemory)
said_so Holds (Ok line) said holds is = inl (line.items, holds, (record { bytes = line }, refl, is))
said_so Holds (Err error) said holds is = inr is

-- a desk by what it has taken and was told
abbrev desk_of : (written : Option (List ℕ)) (failures : ℕ) (files : Option (List FileEvent)) (told : Option (List Complaint)) (faults : ℕ) → DeskState
desk_of written failures files told faults =
    record { written = written; failures = failures; files = files; told = told; faults = faults }

-- a desk that has read a file, or failed to
pub same_but_reads : (before after : DeskState) (files : Option (List FileEvent)) (faults : ℕ) → after.written ≡ before.written
    → after.failures ≡ before.failures → after.told ≡ before.told → after.files ≡ files → after.faults ≡ faults
    → after ≡ record before { files = files; faults = faults }
same_but_reads before after files faults written failures told own count =
    ap (λ w. desk_of w after.failures after.files after.told after.faults) written
    ∙ (ap (λ n. desk_of before.written n after.files after.told after.faults) failures
    ∙ (ap (λ t. desk_of before.written before.failures after.files t after.faults) told
    ∙ (ap (λ f. desk_of before.written before.failures f before.told after.faults) own
    ∙ ap (λ n. desk_of before.written before.failures files before.told n) count)))

-- one file more was read
pub read_more : (files : List (Bor (List ℕ))) (parts : List Part) (file : Bor (List ℕ)) (part : Part) (before middle after : DeskState)
    → slice_get files (length parts) ≡ Some file → AreRead files parts before middle
    → after ≡ once_given file.now (text_of (part_view part)) middle → AreRead files (parts ++ part ∷ []) before after
read_more [] [] file part before middle after next read gave = absurd (let no : None ≡ Some file = next in cc)
read_more (other ∷ files) [] file part before middle after next read gave =
    let same : other ≡ file = same_Some other file next in
    gave ∙ (ap (λ (at : DeskState). once_given file.now (text_of (part_view part)) at) read
    ∙ ap (λ (own : Bor (List ℕ)). once_given own.now (text_of (part_view part)) before) (sym same))
read_more [] (one ∷ parts) file part before middle after next read gave = absurd read
read_more (other ∷ files) (one ∷ parts) file part before middle after next read gave =
    read_more files parts file part (once_given other.now (text_of (part_view one)) before) middle after next read gave

-- a file was read, and memory ran out over it, or nothing was done
pub left_read : (name text : List ℕ) (before after : DeskState) → after ≡ once_given name text before → IsLeftOver true before after
left_read name text before after gave = subst (λ (at : DeskState). IsLeftOver true before at) (sym gave)
    (record { files = inr (name, part_bytes, text, refl); faults = inl refl; rest = refl })

pub left_so : (at : DeskState) → IsLeftOver true at at
left_so at = record { files = inl refl; faults = inl refl; rest = refl }
