-- Worlds of a program before its first step.
use Rattle.std.specs.Prelude.{[], false}
use Rattle.executions.specs.execution.Run.{Run}
use Rattle.litmus_step.specs.Steps.{LeadsTo}
use Rattle.prepared_program.specs.declared.program_sites.settings.Settings.{Settings}
use Rattle.race_verdicts.specs.declared.firsts.Firsts.{Firsts}
use Rattle.race_search.specs.unwatched_executions.Unwatched.{never, unwatched}

-- the same settings, under which no access is watched
abbrev pub unwatched_settings : Settings → Settings
unwatched_settings settings = record settings { skip = never; randomize = false }

-- the one is of the run, the other of that in which no access is watched
pub record AreFirsts (run : Run) (firsts : Firsts) : Type 0 where
  pub watched : LeadsTo run [] firsts.world
  pub unwatched_leads : LeadsTo (unwatched run) [] firsts.unwatched
