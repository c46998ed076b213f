-- What is told of a litmus text that is searched, and why it isn't.
use Rattle.std.specs.Prelude.{◌≡◌, ◌<◌, ◌⊎◌, ℕ, Contains, IfSome, List, Option}
use Rattle.report_text.specs.ReportOf.{report_text}
use Rattle.litmus_parse.specs.Grammar.{SpellsProgram}
use Rattle.litmus_parse.specs.Read.{IsReadAs}
use Rattle.litmus_syntax.specs.Tree as tree
use Rattle.litmus_syntax.specs.declared.error.ParseError.TheVariants as parse
use Rattle.litmus_syntax.specs.declared.program.Program.{Program}
use Rattle.prepared_program.specs.program_layout.Places.{AreFit}
use Rattle.prepared_program.specs.declared.program_sites.error.RunError.{RunError}
use Rattle.prepared_program.specs.declared.program_sites.error.RunError.TheVariants.{BadPlace, BadSchedule, BadSlots, NoThread, OutOfMemory, Stuck}
use Rattle.prepared_program.specs.declared.program_sites.settings.Settings.{Settings}
use Rattle.executions.specs.execution.Run.{Run}
use Rattle.executions.specs.execution.Execution.{Execution}
use Rattle.run_output.specs.declared.error.EngineError.{EngineError}
use Rattle.run_output.specs.declared.error.EngineError.TheVariants as engine
use Rattle.context_bound.specs.bounded_executions.Searched.{HasAtMostPreemptions}
use Rattle.slot_table.specs.declared.records.Record.{Record}
use Rattle.access_types.specs.declared.report.Report.{Report}
use Rattle.executions.specs.execution.Reports.{reports_of}

-- the text of each report of a list of the run with no more preemptions than are allowed is among these
abbrev pub AllAreTold : Run → Option ℕ → List (List ℕ) → Type 0
AllAreTold run allowed texts = (records : List Record) (report : Report) → (list : Execution run records)
    → IfSome allowed (λ most. HasAtMostPreemptions run most records) → Contains (reports_of list) report
    → Contains texts (report_text run.sites report)

-- why a program is not searched: want of memory, too few slots or too many, or places that don't suit its variables
abbrev pub RunStops : Program → Settings → RunError → Type 0
RunStops program settings BadSlots = (settings.slots < 3) ⊎ (1024 < settings.slots)
RunStops program settings BadPlace = ¬ AreFit program.variables settings.places.items
RunStops program settings OutOfMemory = Unit {0}
RunStops program settings (Stuck task) = ⊥
RunStops program settings BadSchedule = ⊥
RunStops program settings NoThread = ⊥

abbrev pub ProgramStops : Program → Settings → EngineError → Type 0
ProgramStops program settings (engine.Text error) = ⊥
ProgramStops program settings (engine.Run error) = RunStops program settings error
ProgramStops program settings engine.SinkFailed = ⊥

-- why a text is not searched: it spells no program, or memory ran out; or its program is not
abbrev pub IsRefused : (text : List ℕ) → Settings → EngineError → Type 0
IsRefused text settings (engine.Text error) = (program : tree.Program) → SpellsProgram text program → error ≡ parse.OutOfMemory
IsRefused text settings (engine.Run error) = (program : Program) × IsReadAs text program × RunStops program settings error
IsRefused text settings engine.SinkFailed = ⊥
