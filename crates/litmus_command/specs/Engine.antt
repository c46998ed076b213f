-- What is left of the run of a litmus text, and why there is none.
use Rattle.std.specs.Prelude.{◌≡◌, ◌<◌, ◌==◌, ◌⊎◌, ℕ, List, [], Option, Bool, IfSome, IsTrue, false, length, not}
use Rattle.access_types.specs.Sites.{AccessMap}
use Rattle.litmus_parse.specs.Read.{IsReadAs}
use Rattle.report_text.specs.printed_reports.Printed.{printed_reports}
use Rattle.prepared_program.specs.declared.program_sites.error.RunError.{RunError}
use Rattle.prepared_program.specs.declared.program_sites.error.RunError.TheVariants.{BadPlace, BadSchedule, BadSlots, NoThread, OutOfMemory, Stuck}
use Rattle.run_output.specs.Output.{IsOutput}
use Rattle.run_output.specs.Traces.{IsToBeAccepted, IsTraceOf}
use Rattle.run_stats.specs.Errors.{IsNotRead}
use Rattle.run_output.specs.declared.error.EngineError.{EngineError}
use Rattle.run_output.specs.declared.error.EngineError.TheVariants.{Run, SinkFailed, Text}
use Rattle.litmus_step.specs.Runs.{IsStuck, run_of, tasks_of}
use Rattle.prepared_program.specs.declared.program_sites.settings.Settings.{Settings}
use Rattle.litmus_syntax.specs.declared.program.Program.{Program}
use Rattle.prepared_program.specs.program_layout.Places.{AreFit}
use Rattle.soundness.specs.Headline.{Headline}
use Rattle.executions.specs.execution.Reports.{reports_of}
use Rattle.executions.specs.execution.Run as lists
use Rattle.executions.specs.execution.Execution.{AllHaveEnded, Execution}
use Rattle.slot_table.specs.declared.records.Record.{Record}
use Rattle.schedule_search.specs.Again.{tasks_known}
use Rattle.prepared_program.specs.step_schedule.Order.{AreAsked, IsOrder}
use Rattle.prepared_program.specs.step_schedule.Schedule.{names_stranger}
use Rattle.prepared_program.specs.declared.step_schedule.schedule.Entry.{Entry}

-- from the first step on the tasks of the run were asked in the order of the schedule, and these are the steps that
-- they made
pub record AreStepped (run : lists.Run) (entries : List Entry) (records : List Record) : Type 0 where
  pub list : Execution run records
  pub order : List ℕ
  pub in_order : IsOrder entries (tasks_of run) order
  pub asked : AreAsked (tasks_known run) (tasks_of run) [] order records

-- What is left of one run of the program, under these settings and this schedule, in which all tasks ended: its output,
-- which begins with the reports of its steps that are printed, where those of unknown origin are wanted or not, and its
-- trace, if there is one, which has all reports, and which `replay` accepts. There was a race if there is a report that
-- is printed. And of its steps the headline holds: each report names a true race, or bytes that changed.
pub record Leaves (unknown : Bool) (program : Program) (settings : Settings) (entries : List Entry) (raced : Bool) (output : List ℕ)
    (trace : Option (List ℕ)) : Type 0 where
  pub fit : AreFit program.variables settings.places.items
  pub known : names_stranger (length program.tasks) entries ≡ false
  pub sites : AccessMap
  pub records : List Record
  pub stepped : AreStepped (run_of program settings sites) entries records
  pub over : AllHaveEnded (run_of program settings sites) records
  pub output_is : IsOutput stepped.list (printed_reports unknown sites (reports_of stepped.list)) output
  pub trace_is : IfSome trace (IsTraceOf settings stepped.list (reports_of stepped.list))
  pub accepted : IfSome trace IsToBeAccepted
  pub raced_is : raced ≡ not (length (printed_reports unknown sites (reports_of stepped.list)) == 0)
  pub headline : Headline stepped.list

-- so it is of the program that the text is read as
pub record TextLeaves (unknown : Bool) (text : List ℕ) (settings : Settings) (entries : List Entry) (raced : Bool) (output : List ℕ)
    (trace : Option (List ℕ)) : Type 0 where
  pub program : Program
  pub read : IsReadAs text program
  pub leaves : Leaves unknown program settings entries raced output trace

-- The tasks of the program were asked for steps under these settings in the order of the schedule, and then a wait of
-- the task had as many failed tries as are allowed.
pub record GetsStuck (program : Program) (settings : Settings) (entries : List Entry) (task : ℕ) : Type 0 where
  pub sites : AccessMap
  pub records : List Record
  pub stepped : AreStepped (run_of program settings sites) entries records
  pub there : task < tasks_of (run_of program settings sites)
  pub stuck : IsStuck (run_of program settings sites) task records

-- the tasks of the program were asked for steps under these settings in the order of the schedule, and then all had
-- ended
pub record ComesToEnd (program : Program) (settings : Settings) (entries : List Entry) : Type 0 where
  pub sites : AccessMap
  pub records : List Record
  pub stepped : AreStepped (run_of program settings sites) entries records
  pub over : AllHaveEnded (run_of program settings sites) records

-- why a program that is made ready, and has made no step, leaves nothing: its schedule names a task that isn't there, a
-- task gets stuck, or, once all tasks have ended, there is no room for what is written. So a task that gets stuck is
-- never told as want of memory.
abbrev pub StopsReady : Program → Settings → List Entry → EngineError → Type 0
StopsReady program settings entries (Text error) = ⊥
StopsReady program settings entries (Run BadSlots) = ⊥
StopsReady program settings entries (Run BadPlace) = ⊥
StopsReady program settings entries (Run OutOfMemory) = ComesToEnd program settings entries
StopsReady program settings entries (Run (Stuck task)) = GetsStuck program settings entries task
StopsReady program settings entries (Run BadSchedule) = IsTrue (names_stranger (length program.tasks) entries)
StopsReady program settings entries (Run NoThread) = ⊥
StopsReady program settings entries SinkFailed = ⊥

-- why the run of a program has no output: want of memory, too few slots or too many, places that don't suit its
-- variables, a schedule that names a task that isn't there, or a task that is stuck
abbrev pub StopsRun : Program → Settings → List Entry → RunError → Type 0
StopsRun program settings entries BadSlots = (settings.slots < 3) ⊎ (1024 < settings.slots)
StopsRun program settings entries BadPlace = ¬ AreFit program.variables settings.places.items
StopsRun program settings entries OutOfMemory = Unit {0}
StopsRun program settings entries (Stuck task) = GetsStuck program settings entries task
StopsRun program settings entries BadSchedule = IsTrue (names_stranger (length program.tasks) entries)
StopsRun program settings entries NoThread = ⊥

abbrev pub Stops : Program → Settings → List Entry → EngineError → Type 0
Stops program settings entries (Text error) = ⊥
Stops program settings entries (Run error) = StopsRun program settings entries error
Stops program settings entries SinkFailed = ⊥

-- why a text has no output: it is not read as a program, or the program's run has none. Of a sink that fails other
-- clauses speak.
abbrev pub IsRefused : (text : List ℕ) → Settings → List Entry → EngineError → Type 0
IsRefused text settings entries (Text error) = IsNotRead text error
IsRefused text settings entries (Run error) = (program : Program) × IsReadAs text program × StopsRun program settings entries error
IsRefused text settings entries SinkFailed = ⊥
