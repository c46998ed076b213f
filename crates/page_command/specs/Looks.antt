-- Litmus files whose races are looked for one after the other, and what a page tells of them.
use Rattle.std.specs.Prelude.{◌≡◌, ℕ, List, true}
use Rattle.std.specs.List.{AllZip}
use Rattle.file_commands.specs.Check.{IsLeftOver}
use Rattle.file_commands.specs.Desks.{DeskState}
use Rattle.file_commands.specs.FileWork.{AreSearched, Asked, FileFound, IsLookedAt, IsSaidOf, LooksInto, Searched, has_names}
use Rattle.page_command.specs.Told.{IsTold}
use Rattle.page_command.specs.declared.looks.AllLooked.{AllLooked}
use Rattle.page_command.specs.declared.looks.Looked.{Looked}
use Rattle.race_page.specs.declared.page_findings.file.FileFound as findings
use Rattle.prepared_program.specs.declared.program_sites.settings.Settings.{Settings}
use Rattle.race_output.specs.declared.file.Format.{Format}
use Rattle.race_page.specs.declared.values.FileEnd.TheVariants as ends

-- of a file of a name that gave a text, of which this was found, this is said, and a page tells this
pub record IsFoundLooked (asked : Asked) (name text : List ℕ) (found : findings.FileFound) (looked : Looked) : Type 0 where
  pub said : IsSaidOf (has_names asked) asked.work (Searched name text found.races.output.items found.races.verdict) looked.said
  pub name_is : looked.told.name.items ≡ name
  pub text_is : looked.told.text.items ≡ text
  pub end_is : looked.told.end ≡ ends.Found found.told

-- this comes of a file of a name that was looked into: what is said of it, and what a page tells of it
pub record IsLooked (asked : Asked) (format : Format) (settings : Settings) (name : List ℕ) (looked : Looked)
    (before after : DeskState) : Type 0 where
  pub said : IsLookedAt asked settings name looked.said before after
  pub told : IsTold settings format said.found looked.told

-- all files were looked into under these settings, which are asked for: so much is printed of them, with this status,
-- and a page tells this of each
pub record AreLooked (asked : Asked) (format : Format) (settings : Settings) (all : AllLooked) (before after : DeskState) :
    Type 0 where
  pub searched : AreSearched asked all.checked.output.items all.checked.status before after
  pub settings_are : searched.looks.settings ≡ settings
  pub told : AllZip (IsTold settings format) searched.founds all.files.items

-- memory ran out over a file, or over what is printed or told of them: those before it were looked into
pub record AreLeft (asked : Asked) (before after : DeskState) : Type 0 where
  pub founds : List FileFound
  pub middle : DeskState
  pub looks : LooksInto asked founds before middle
  pub over : IsLeftOver true middle after
