-- What threads find of the texts of several files that they share.
use Rattle.std.specs.Global.{Global}
use Rattle.std.specs.Option.{option_map}
use Rattle.std.specs.Prelude.{◌≡◌, ◌≢◌, ℕ, All, List, Option, Some, Vec, length, map, slice_get, take}
use Rattle.std.specs.Borrow.{Bor}
use Rattle.diagnostics.specs.check_output.Output.{IsMadeOf}
use Rattle.diagnostics.specs.declared.text_check.checked.Check.{Check}
use Rattle.diagnostics.specs.text_check.Check.{IsCheckOf}
use Rattle.file_commands.specs.Desks.{DeskState}
use Rattle.file_commands.specs.FileWork.{AreRead, Asked, FileRead, IsLookedAt, IsTextRead, files_of, refused_by}
use Rattle.file_search.specs.Work.{IsFoundIn}
use Rattle.file_commands.specs.Statuses.{engine_status_of}
use Rattle.file_commands.specs.declared.files.FileSaid.{FileSaid}
use Rattle.file_commands.specs.declared.together.NumberedEnd.{NumberedEnd}
use Rattle.file_commands.specs.declared.together.TextEnd.{TextEnd}
use Rattle.file_commands.specs.declared.together.TextEnd.TheVariants as ends
use Rattle.file_commands.specs.declared.together.UnreadText.{UnreadText}
use Rattle.prepared_program.specs.declared.program_sites.settings.Settings.{Settings}
use Rattle.search_output.specs.Texts.{IsRefused}

-- so `check` finds that a text isn't read as a program: this is to be told of it
pub record IsUnread (asked : Asked) (settings : Settings) (name text : List ℕ) (unread : UnreadText) : Type 0 where
  pub check : Check
  pub is_check : IsCheckOf name text settings check
  pub made : IsMadeOf (files_of asked) name check unread.comes
  pub why_is : Some (unread.status, unread.why) ≡ refused_by check

-- this comes of the text that a file of a name gave; want of memory is no end
abbrev pub IsEndOfText : Asked → Settings → (name text : List ℕ) → TextEnd → Type 0
IsEndOfText asked settings name text (ends.Found found) = IsFoundIn asked.work settings name text found.output.items found.verdict
IsEndOfText asked settings name text (ends.Unread unread) = IsUnread asked settings name text unread
IsEndOfText asked settings name text (ends.Refused error) = IsRefused text settings error × (engine_status_of error ≢ 71)

-- a text, without where it lies in memory
abbrev pub text_of : Option (Vec ℕ Global) → Option (List ℕ)
text_of text = option_map (λ text. text.items) text

abbrev pub texts_of : List (Option (Vec ℕ Global)) → List (Option (List ℕ))
texts_of texts = map text_of texts

-- this comes of the text of the file that has this place among those that are asked for
pub record IsEndAt (asked : Asked) (settings : Settings) (texts : List (Option (List ℕ))) (numbered : NumberedEnd) : Type 0 where
  pub name : Bor (List ℕ)
  pub name_is : slice_get asked.files numbered.at ≡ Some name
  pub text : List ℕ
  pub text_is : slice_get texts numbered.at ≡ Some (Some text)
  pub is_end : IsEndOfText asked settings name.now text numbered.end

-- so it is of each
abbrev pub AreEndsOf : Asked → Settings → (texts : List (Option (List ℕ))) → List NumberedEnd → Type 0
AreEndsOf asked settings texts ends = All (IsEndAt asked settings texts) ends

-- all files were read in their order, and gave these texts
pub record AllAreRead (asked : Asked) (texts : List (Option (List ℕ))) (before after : DeskState) : Type 0 where
  pub reads : List FileRead
  pub names_are : map (λ (read : FileRead). read.name) reads ≡ map (λ file. file.now) asked.files
  pub texts_are : map (λ (read : FileRead). read.text) reads ≡ texts
  pub are_read : AreRead reads before after

-- the first files, as many as these, were read in their order
pub record FirstAreRead (asked : Asked) (before after : DeskState) : Type 0 where
  pub reads : List FileRead
  pub names_are : map (λ (read : FileRead). read.name) reads ≡ take (length reads) (map (λ file. file.now) asked.files)
  pub are_read : AreRead reads before after

-- This is said of a file of a name that gave this text, or none, and so much was told: whenever the file was read, if as
-- much had been told before.
abbrev pub IsSaidOnce : Asked → Settings → (name : List ℕ) → (text : Option (List ℕ)) → FileSaid → (untold told : DeskState) → Type 0
IsSaidOnce asked settings name text said untold told = (before after : DeskState) → before.told ≡ untold.told
    → IsTextRead name text before after → IsLookedAt asked settings name said before (record after { told = told.told })
