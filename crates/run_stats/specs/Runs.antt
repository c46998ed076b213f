-- What is seen of runs on threads.
use Rattle.std.specs.Prelude.{◌≡◌, ◌<◌, ◌+◌, ◌*◌, ◌++◌, ◌∷◌, [], ℕ, All, AllPairs, IfErr, IfOk, List, Ok, Option, None, Result, Some, Vec, length, slice_get, slice_index_or}
use Rattle.std.specs.Global.{Global}
use Rattle.std.specs.declared.alloc.AllocError.{AllocError}
use Rattle.prepared_program.specs.declared.program_sites.settings.Settings.{Settings}
use Rattle.litmus_syntax.specs.declared.program.Program.{Program}
use Rattle.run_stats.specs.Errors.{GetsStuck, StopsRun}
use Rattle.soundness.specs.Headline.{Headline}
use Rattle.runner.specs.Result.{IsRunOnce}
use Rattle.prepared_program.specs.declared.program_sites.error.RunError.{RunError}
use Rattle.runner.specs.declared.result.RunResult.{RunResult}
use Rattle.run_output.specs.Output.{IsFoundOf}
use Rattle.run_output.specs.declared.output.RunFindings.{RunFindings}

-- One run of the program on threads: its result, which the list of all its steps gives, and what is found of it. Of the
-- list the headline holds.
pub record OneRun (program : Program) (settings : Settings) : Type 0 where
  pub result : RunResult
  pub once : IsRunOnce program settings result
  pub headline : Headline once.list
  pub found : RunFindings
  pub found_of : IsFoundOf once.list found

-- one run that had no end: a task of the program gets stuck
pub record StuckRun (program : Program) (settings : Settings) : Type 0 where
  pub task : ℕ
  pub stuck : GetsStuck program settings task

-- what comes of one run of the program on threads: a result, or a reason why there is none
pub record Comes (program : Program) (settings : Settings) (outcome : Result RunResult RunError) : Type 0 where
  pub once : IfOk outcome (IsRunOnce program settings)
  pub stops : IfErr outcome (StopsRun program settings)

-- what came of a run that was made under this number, if it ended
abbrev pub IsNumbered : ℕ → Result RunResult RunError → Type 0
IsNumbered number outcome = IfOk outcome (λ result. result.number ≡ number)

-- what came of runs that were made under the numbers from this one on
abbrev pub AreNumberedFrom : ℕ → List (Result RunResult RunError) → Type 0
AreNumberedFrom from outcomes = (at : ℕ) (d : Result RunResult RunError) → at < length outcomes
    → IsNumbered (from + at) (slice_index_or outcomes at d)

-- This comes of so many runs of the program that were made under the numbers from this one on.
pub record ComeFrom (program : Program) (settings : Settings) (from many : ℕ) (outcomes : List (Result RunResult RunError)) : Type 0 where
  pub many_are : length outcomes ≡ many
  pub each : All (Comes program settings) outcomes
  pub numbers : AreNumberedFrom from outcomes

-- Of several batches of so many runs each comes of those whose numbers begin where those of the one before end, or
-- there was no memory.
abbrev pub AreBatches : Program → Settings → (from many : ℕ) → List (Result (Vec (Result RunResult RunError) Global) AllocError) → Type 0
AreBatches program settings from many batches = (at : ℕ) (batch : Vec (Result RunResult RunError) Global) → slice_get batches at ≡ Some (Ok batch)
    → ComeFrom program settings (from + at * many) many batch.items

-- Each of these runs was made by a call of its own: the number under which it was made is below those of all runs
-- behind it.
abbrev pub AreMadeApart : {program : Program} {settings : Settings} → List (OneRun program settings) → Type 0
AreMadeApart runs = AllPairs (λ one later. one.result.number < later.result.number) runs

-- this is the result of the last of the runs, if there is one
abbrev pub IsLast : {program : Program} {settings : Settings} → List (OneRun program settings) → Option RunResult → Type 0
IsLast runs None = runs ≡ []
IsLast {program = program} {settings = settings} runs (Some result) =
    (before : List (OneRun program settings)) × (last : OneRun program settings) × (runs ≡ before ++ last ∷ []) × (last.result ≡ result)
