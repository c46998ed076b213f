-- What a page tells of the races of a program.
use Rattle.std.specs.Prelude.{◌≡◌, ℕ, IfSome, List, Option, Some, Vec, option_map}
use Rattle.std.specs.Global.{Global}
use Rattle.std.specs.List.{AllZip}
use Rattle.executions.specs.execution.Run.{Run}
use Rattle.litmus_syntax.specs.declared.program.Program.{Program}
use Rattle.output_pieces.specs.Variables.{names_of}
use Rattle.race_page.specs.page_findings.Pictures.{IsPictureBy}
use Rattle.prepared_program.specs.declared.program_sites.settings.Settings.{Settings}
use Rattle.prepared_program.specs.declared.step_schedule.schedule.Entry.{Entry}
use Rattle.race_output.specs.Sites.{told_of}
use Rattle.race_output.specs.Words.{verdict_of}
use Rattle.race_page.specs.declared.values.PairTold.{PairTold}
use Rattle.race_page.specs.declared.values.RacesTold.{RacesTold}
use Rattle.race_verdicts.specs.declared.find.RacesFound.{RacesFound}
use Rattle.races.specs.declared.verdict.PairFound.{PairFound}

-- the entries of a schedule, if there is one
abbrev pub entries_in : Option (Vec Entry Global) → Option (List Entry)
entries_in schedule = option_map (λ (entries : Vec Entry Global). entries.items) schedule

-- the bytes are the picture of the execution that the schedule of the pair gives
abbrev pub IsPictureOfPair : Run → Program → Settings → (text : List ℕ) → PairFound → List ℕ → Type 0
IsPictureOfPair run program settings text one svg =
    (entries : List Entry) × (entries_in one.schedule ≡ Some entries) × IsPictureBy run program settings text entries svg

-- This is told of a pair: where its sites stand in the text and what is accessed there, its verdict and its schedule. A
-- picture is that of the execution which the schedule gives.
pub record IsTold (run : Run) (program : Program) (settings : Settings) (text : List ℕ) (places : List (List ℕ)) (one : PairFound)
    (told : PairTold) : Type 0 where
  pub first : told.first ≡ told_of run text places one.pair.first
  pub second : told.second ≡ told_of run text places one.pair.second
  pub variable : told.variable.items ≡ names_of run.program.variables told.first.variable told.second.variable
  pub verdict : told.verdict ≡ one.verdict
  pub schedule : entries_in told.schedule ≡ entries_in one.schedule
  pub picture : IfSome told.picture (λ svg. IsPictureOfPair run program settings text one svg.items)

-- this is told of all pairs, and of how much was searched
pub record AreTold (run : Run) (program : Program) (settings : Settings) (text : List ℕ) (places : List (List ℕ)) (found : RacesFound)
    (told : RacesTold) : Type 0 where
  pub pairs : AllZip (IsTold run program settings text places) found.pairs.items told.pairs.items
  pub verdict : told.verdict ≡ verdict_of found.pairs.items
  pub unwatched_states : told.unwatched_states ≡ found.unwatched_states
  pub unwatched_stopped : told.unwatched_stopped ≡ found.unwatched_stopped
  pub schedules : told.schedules ≡ found.schedules
  pub states : told.states ≡ found.states
  pub stopped : told.stopped ≡ found.stopped
