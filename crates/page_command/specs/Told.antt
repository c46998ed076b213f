-- What a page tells of litmus files.
use Rattle.std.specs.Prelude.{◌≡◌, ℕ, List, [], Vec, codes}
use Rattle.std.specs.Global.{Global}
use Rattle.diagnostics.specs.check_output.Diagnosis.{Diagnosis, Gave, Lost, name_of}
use Rattle.file_commands.specs.FileWork.{FileFound, PassedOver, Refused, Searched, refusal_in, refusal_of}
use Rattle.race_page.specs.page_findings.Results.{AreFindingsOfText}
use Rattle.race_page.specs.declared.page_findings.file.FileFound as findings
use Rattle.prepared_program.specs.declared.program_sites.settings.Settings.{Settings}
use Rattle.race_output.specs.declared.file.Format.{Format}
use Rattle.race_output.specs.declared.words.FileVerdict.{FileVerdict}
use Rattle.race_page.specs.Page.{page_text}
use Rattle.race_page.specs.declared.values.FileEnd.TheVariants as ends
use Rattle.race_page.specs.declared.values.FileTold.{FileTold}
use Rattle.race_page.specs.declared.values.Page.{Page}
use Rattle.search_formats.specs.Refusals.{refusal_text}
use Rattle.search_formats.specs.declared.refusal.Refusal.{Refusal}

-- A page tells this of a file that gave a text which was looked into: what was found of the text, of which this output
-- is written, with this verdict.
pub record IsFoundTold (settings : Settings) (format : Format) (name text output : List ℕ) (verdict : FileVerdict)
    (told : FileTold) : Type 0 where
  pub name_is : told.name.items ≡ name
  pub text_is : told.text.items ≡ text
  pub found : findings.FileFound
  pub are : AreFindingsOfText text settings format name found
  pub output_is : output ≡ found.races.output.items
  pub verdict_is : verdict ≡ found.races.verdict
  pub end_is : told.end ≡ ends.Found found.told

-- and this of one that has no output: why
pub record IsRefusedTold (name text : List ℕ) (why : Refusal) (told : FileTold) : Type 0 where
  pub name_is : told.name.items ≡ name
  pub text_is : told.text.items ≡ text
  pub words : Vec ℕ Global
  pub words_are : words.items ≡ refusal_text why
  pub end_is : told.end ≡ ends.Refused words

-- the text that a file gave, which is empty where it can't be read
abbrev pub text_given : Diagnosis → List ℕ
text_given (Gave name text check) = text
text_given (Lost name) = []

-- a page tells this of a file of which this was found
abbrev pub IsTold : Settings → Format → FileFound → FileTold → Type 0
IsTold settings format (Searched name text output verdict) told =
    IsFoundTold settings format name text output verdict told
IsTold settings format (Refused name text error) told = IsRefusedTold name text (refusal_in error) told
IsTold settings format (PassedOver why) told = IsRefusedTold (name_of why) (text_given why) (refusal_of why) told

-- the program that writes a page: its name and its version
abbrev pub program_words : List ℕ
program_words = codes "kcsan_litmus 1.0.0"

-- these are the bytes of a page that tells this of files, with these settings and the program at its foot
pub record IsPageText (settings : Settings) (files : List FileTold) (bytes : List ℕ) : Type 0 where
  pub page : Page
  pub files_are : page.files.now ≡ files
  pub settings_are : page.settings.now ≡ settings
  pub program_is : page.program.now ≡ program_words
  pub bytes_are : bytes ≡ page_text page
