-- What comes of a file whose races are looked for.
use Rattle.std.specs.Prelude.{◌≡◌, ◌<◌, ◌⊎◌, ℕ, List, None}
use Rattle.access_types.specs.Access.{Access}
use Rattle.access_types.specs.Sites.{AccessMap}
use Rattle.executions.specs.execution.Run.{Run}
use Rattle.litmus_parse.specs.Read.{IsReadAs}
use Rattle.litmus_step.specs.Runs.{run_of}
use Rattle.litmus_syntax.specs.Views.{program_of}
use Rattle.litmus_syntax.specs.declared.program.Program.{Program}
use Rattle.prepared_program.specs.program_layout.Places.{AreFit, places_of}
use Rattle.prepared_program.specs.program_sites.Sites.{AreSitesOf}
use Rattle.prepared_program.specs.declared.program_sites.settings.Settings.{Settings}
use Rattle.race_output.specs.Json.{races_json}
use Rattle.race_output.specs.Table.{races_text}
use Rattle.race_output.specs.Words.{verdict_of}
use Rattle.race_output.specs.declared.file.Format.{Format}
use Rattle.race_output.specs.declared.file.Format.TheVariants.{Json, Text}
use Rattle.race_output.specs.declared.words.FileVerdict.{FileVerdict}
use Rattle.race_verdicts.specs.Judged.{AreRacesOf}
use Rattle.race_verdicts.specs.declared.find.RacesFound.{RacesFound}
use Rattle.races.specs.Pairs.{IsAt}
use Rattle.races.specs.Shown.{AreTrueRace, SomeShows}
use Rattle.races.specs.Verdicts.{IsRace}
use Rattle.races.specs.declared.pair.SitePair.{SitePair}

-- what is written in a form of what was found
abbrev pub written : Format → (name : List ℕ) → Run → (text : List ℕ) → (places : List (List ℕ)) → Settings → RacesFound → List ℕ
written Text name run text places settings found = races_text run text places settings found
written Json name run text places settings found = races_json name run text places settings found

-- The output is what is written of the races of a program under these settings, and the verdict that of its pairs.
-- Where the sites stand in the text isn't said here: a site has the line and the column of its place among these, if any.
pub record AreRacesOfProgram (program : Program) (settings : Settings) (format : Format) (name text output : List ℕ)
    (verdict : FileVerdict) : Type 0 where
  pub fit : AreFit program.variables settings.places.items
  pub sites : AccessMap
  pub sites_are : AreSitesOf (program_of program) (places_of settings.places.items) sites
  pub found : RacesFound
  pub races : AreRacesOf (run_of program settings sites) found
  pub places : List (List ℕ)
  pub output_is : output ≡ written format name (run_of program settings sites) text places settings found
  pub verdict_is : verdict ≡ verdict_of found.pairs.items

-- so it is of the program that the text is read as
pub record AreRacesOfText (text : List ℕ) (settings : Settings) (format : Format) (name output : List ℕ) (verdict : FileVerdict) : Type 0 where
  pub program : Program
  pub read : IsReadAs text program
  pub are : AreRacesOfProgram program settings format name text output verdict

-- no access at either site has a mask
abbrev pub HasNoMask : Run → SitePair → Type 0
HasNoMask run pair = (a : Access) → IsAt run pair.first a ⊎ IsAt run pair.second a → a.mask ≡ None

-- No two sites of different tasks race: in no execution are accesses at them a true race in which a mask of either, if it
-- has one, is broken by the other; so without masks no execution has a true race at them.
pub record HasNoRace (run : Run) : Type 0 where
  pub races : (pair : SitePair) → pair.first.task < pair.second.task → ¬ IsRace run pair
  pub true_races : (pair : SitePair) → HasNoMask run pair → pair.first.task < pair.second.task → ¬ SomeShows run (AreTrueRace run pair)

-- so it is with the run of the program that the text is read as
pub record IsFree (text : List ℕ) (settings : Settings) : Type 0 where
  pub program : Program
  pub read : IsReadAs text program
  pub sites : AccessMap
  pub sites_are : AreSitesOf (program_of program) (places_of settings.places.items) sites
  pub no_race : HasNoRace (run_of program settings sites)
