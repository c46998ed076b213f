-- What comes of a file whose races are looked for, and told by a page.
use Rattle.std.specs.Prelude.{◌≡◌, ℕ, List}
use Rattle.access_types.specs.Sites.{AccessMap}
use Rattle.litmus_parse.specs.Read.{IsReadAs}
use Rattle.litmus_step.specs.Runs.{run_of}
use Rattle.litmus_syntax.specs.Views.{program_of}
use Rattle.litmus_syntax.specs.declared.program.Program.{Program}
use Rattle.race_page.specs.page_findings.Told.{AreTold}
use Rattle.race_page.specs.declared.page_findings.file.FileFound.{FileFound}
use Rattle.prepared_program.specs.declared.program_sites.settings.Settings.{Settings}
use Rattle.prepared_program.specs.program_layout.Places.{AreFit, places_of}
use Rattle.prepared_program.specs.program_sites.Sites.{AreSitesOf}
use Rattle.race_output.specs.Results.{written}
use Rattle.race_output.specs.Words.{verdict_of}
use Rattle.race_output.specs.declared.file.Format.{Format}
use Rattle.race_verdicts.specs.Judged.{AreRacesOf}
use Rattle.race_verdicts.specs.declared.find.RacesFound.{RacesFound}

-- What is written, the verdict and what a page tells are of the races that were found of a program under these
-- settings.
pub record AreFindingsOfProgram (program : Program) (settings : Settings) (format : Format) (name text : List ℕ)
    (file : FileFound) : Type 0 where
  pub fit : AreFit program.variables settings.places.items
  pub sites : AccessMap
  pub sites_are : AreSitesOf (program_of program) (places_of settings.places.items) sites
  pub found : RacesFound
  pub races : AreRacesOf (run_of program settings sites) found
  pub places : List (List ℕ)
  pub output_is : file.races.output.items
      ≡ written format name (run_of program settings sites) text places settings found
  pub verdict_is : file.races.verdict ≡ verdict_of found.pairs.items
  pub told : AreTold (run_of program settings sites) program settings text places found file.told

-- so it is of the program that the text is read as
pub record AreFindingsOfText (text : List ℕ) (settings : Settings) (format : Format) (name : List ℕ)
    (file : FileFound) : Type 0 where
  pub program : Program
  pub read : IsReadAs text program
  pub are : AreFindingsOfProgram program settings format name text file
