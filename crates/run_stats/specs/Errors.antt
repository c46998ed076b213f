-- Why runs have no output.
use Rattle.std.specs.Prelude.{◌≡◌, ◌<◌, ◌⊎◌, ℕ, Bool, List, false}
use Rattle.access_types.specs.Sites.{AccessMap}
use Rattle.litmus_parse.specs.Grammar.{SpellsProgram}
use Rattle.litmus_parse.specs.Read.{IsReadAs}
use Rattle.litmus_step.specs.Runs.{run_of}
use Rattle.prepared_program.specs.declared.program_sites.settings.Settings.{Settings}
use Rattle.litmus_syntax.specs.Tree as tree
use Rattle.litmus_syntax.specs.declared.error.ParseError.{ParseError}
use Rattle.litmus_syntax.specs.declared.error.ParseError.TheVariants as parse
use Rattle.litmus_syntax.specs.declared.program.Program.{Program}
use Rattle.prepared_program.specs.program_layout.Places.{AreFit}
use Rattle.run_output.specs.declared.error.EngineError.{EngineError}
use Rattle.run_output.specs.declared.error.EngineError.TheVariants.{Run, SinkFailed, Text}
use Rattle.runner.specs.TaskResult.{IsFailedWait, IsThrough}
use Rattle.prepared_program.specs.declared.program_sites.error.RunError.{RunError}
use Rattle.prepared_program.specs.declared.program_sites.error.RunError.TheVariants.{BadPlace, BadSchedule, BadSlots, NoThread, OutOfMemory, Stuck}

-- some steps of the task end in a wait with as many failed tries as are allowed, and each task below comes to the end
-- of its text
pub record GetsStuck (program : Program) (settings : Settings) (task : ℕ) : Type 0 where
  pub sites : AccessMap
  pub failed : IsFailedWait (run_of program settings sites) task
  pub smallest : (below : ℕ) → below < task → IsThrough (run_of program settings sites) below

-- why a program can't be run on threads, or a run of it doesn't come to its end: too few slots or too many, places that
-- don't suit its variables, a task that is stuck, or what the machine decides
abbrev pub StopsRun : Program → Settings → RunError → Type 0
StopsRun program settings BadSlots = (settings.slots < 3) ⊎ (1024 < settings.slots)
StopsRun program settings BadPlace = ¬ AreFit program.variables settings.places.items
StopsRun program settings OutOfMemory = Unit {0}
StopsRun program settings (Stuck task) = GetsStuck program settings task
StopsRun program settings BadSchedule = ⊥
StopsRun program settings NoThread = Unit {0}

-- whether a run without an end is only counted: a stuck one, where these are counted
abbrev pub is_counted : (counted : Bool) → RunError → Bool
is_counted counted BadSlots = false
is_counted counted BadPlace = false
is_counted counted OutOfMemory = false
is_counted counted (Stuck task) = counted
is_counted counted BadSchedule = false
is_counted counted NoThread = false

-- why the runs of a program stop
abbrev pub Stops : (counted : Bool) → Program → Settings → EngineError → Type 0
Stops counted program settings (Text error) = ⊥
Stops counted program settings (Run error) = StopsRun program settings error × (is_counted counted error ≡ false)
Stops counted program settings SinkFailed = ⊥

-- why a text is not read: it spells no program, or memory ran out
abbrev pub IsNotRead : (text : List ℕ) → ParseError → Type 0
IsNotRead text error = (program : tree.Program) → SpellsProgram text program → error ≡ parse.OutOfMemory

-- why a text has no output of its runs: it is not read as a program, or the program's runs stop
abbrev pub IsRefused : (counted : Bool) → (text : List ℕ) → Settings → EngineError → Type 0
IsRefused counted text settings (Text error) = IsNotRead text error
IsRefused counted text settings (Run error) =
    (program : Program) × IsReadAs text program × StopsRun program settings error × (is_counted counted error ≡ false)
IsRefused counted text settings SinkFailed = ⊥
