-- The run of a program under some settings, and what is asked of a run.
use Rattle.std.specs.Prelude.{◌<◌, ◌≤◌, ◌^◌, ℕ}
use Rattle.access_types.specs.Sites.{AccessMap}
use Rattle.litmus_syntax.specs.Limits.{KeepsLimits}
use Rattle.litmus_syntax.specs.Views.{program_of}
use Rattle.litmus_syntax.specs.declared.program.Program.{Program}
use Rattle.prepared_program.specs.program_layout.Places.{places_of}
pub use Rattle.executions.specs.execution.Ended.{HasEnded, IsStuck, tasks_of}
use Rattle.executions.specs.execution.Run.{Run, task_setting}
use Rattle.task_plan.specs.task_laws.Fits.{ArePlaced}
use Rattle.prepared_program.specs.program_sites.Settings.{rules_of}
use Rattle.prepared_program.specs.declared.program_sites.settings.Settings.{Settings}

-- the run of a program under these settings, where tickets name these accesses
abbrev pub run_of : Program → Settings → AccessMap → Run
run_of program settings sites = record {
  program = program_of program;
  places = places_of settings.places.items;
  rules = rules_of settings;
  sites = sites;
}

-- the program keeps the limits, its variables are placed for each task, there are page slots, and a wait has an end
pub record CanBeMade (run : Run) : Type 0 where
  pub limits : KeepsLimits run.program
  pub placed : (task : ℕ) → task < tasks_of run → ArePlaced (task_setting run task)
  pub slots : 3 ≤ run.rules.slots
  pub turns : run.rules.turns < 2 ^ 64
