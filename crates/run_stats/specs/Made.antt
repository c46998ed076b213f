-- What is kept of the runs that were made.
use Rattle.std.specs.Prelude.{◌≡◌, ◌⊎◌, ◌<◌, ◌+◌, ◌++◌, ◌∷◌, [], ℕ, All, Bool, List, Ok, Result, false, length, true}
use Rattle.access_types.specs.Sites.{AccessMap}
use Rattle.prepared_program.specs.declared.program_sites.settings.Settings.{Settings}
use Rattle.litmus_syntax.specs.declared.program.Program.{Program}
use Rattle.run_stats.specs.Output.{AreAsMany, AreQuietBeforeLast}
use Rattle.prepared_program.specs.declared.program_sites.error.RunError.{RunError}
use Rattle.run_stats.specs.Runs.{AreMadeApart, IsLast, OneRun, StuckRun}
use Rattle.run_stats.specs.Tally.{Tallies}
use Rattle.run_stats.specs.declared.made.Made.{Made}
use Rattle.run_stats.specs.declared.times.Times.{Times}
use Rattle.runner.specs.declared.result.RunResult.{RunResult}

-- These runs were made and ended, and in these others a task got stuck: both are counted, what is kept is of those that
-- ended, and this is the result of the last of them, if there is one.
pub record AreMade (unknown : Bool) (program : Program) (settings : Settings) (sites : AccessMap) (runs : List (OneRun program settings))
    (stuck : List (StuckRun program settings)) (made : Made) : Type 0 where
  pub ended : made.ended ≡ length runs
  pub stuck_are : made.stuck ≡ length stuck
  pub tallies : Tallies unknown program settings sites runs made.tally
  pub last_is : IsLast runs made.last

-- one run more was made, of which this came: it ended, or it got stuck and is counted
abbrev pub IsOneMore : (unknown : Bool) (program : Program) (settings : Settings) (sites : AccessMap) (counted : Bool) → Result RunResult RunError
    → List (OneRun program settings) → List (StuckRun program settings) → Made → Type 0
IsOneMore unknown program settings sites counted outcome runs stuck made =
    ((one : OneRun program settings) × (outcome ≡ Ok one.result) × AreMade unknown program settings sites (runs ++ one ∷ []) stuck made)
    ⊎ ((counted ≡ true) × ((one : StuckRun program settings) × AreMade unknown program settings sites runs (stuck ++ one ∷ []) made))

-- so many runs were made, on the way to those that are asked for
pub record AreMadeSoFar (program : Program) (settings : Settings) (sites : AccessMap) (times : Times) (many : ℕ) (made : Made) : Type 0 where
  pub runs : List (OneRun program settings)
  pub stuck : List (StuckRun program settings)
  pub made_are : AreMade times.unknown_origin program settings sites runs stuck made
  pub many_are : length runs + length stuck ≡ many
  pub first : times.stop_at_first ≡ true → AreQuietBeforeLast times.unknown_origin sites runs
  pub counted : times.keep_going ≡ false → stuck ≡ []
  pub apart : AreMadeApart runs
  pub numbers : All (λ one. one.result.number < many) runs

-- as many runs were made as are asked for
pub record AreAllMade (program : Program) (settings : Settings) (sites : AccessMap) (times : Times) (made : Made) : Type 0 where
  pub runs : List (OneRun program settings)
  pub stuck : List (StuckRun program settings)
  pub made_are : AreMade times.unknown_origin program settings sites runs stuck made
  pub many_are : AreAsMany times sites runs stuck
