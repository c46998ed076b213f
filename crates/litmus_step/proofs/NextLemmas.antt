-- What a machine's next step is to the list that leads to it.
use Rattle.std.proofs.Common.{◌++◌, ◌∷◌, [], ℕ, IfSome, List, None, Option, Some, reverse}
use Rattle.litmus_step.specs.Leads.{GoesOnWith, LeadsToAll, MakesNextIn}
use Rattle.litmus_step.specs.Steps.{IsMachine, LeadsTo}
use Rattle.litmus_step.specs.declared.world.World.{World}
use Rattle.litmus_syntax.specs.Tree.{Block}
use Rattle.setup_access.specs.Parts.{made}
use Rattle.slot_table.specs.declared.records.Record.{Record}
use Rattle.slot_table.specs.declared.step.Answer.{Answer}
use Rattle.slot_table.specs.declared.step.Step.{Step}
use Rattle.executions.specs.execution.Run.{Run}
use Rattle.task_run.specs.Leads.{Leads}
use Rattle.task_run.specs.Says.{Says}
use Rattle.task_run.specs.declared.run.TaskRun.{TaskRun}
use Rattle.program_order.specs.Standing.{Setting}
use Rattle.program_order.specs.Waits.{OnlyStep, WithinTurns}

pub makes_next : (world : World) (task : ℕ) (machine : TaskRun) (next : Option Step) → IsMachine world task machine
    → IfSome next (Says machine)
    → ((s : Setting) (registers : ℕ) (body : Block) (records : List Record) → Leads s registers body records machine
    → IfSome next (OnlyStep s registers body records))
    → ((s : Setting) (registers : ℕ) (body : Block) (records : List Record) → Leads s registers body records machine
    → WithinTurns s.rules.turns (reverse records)
    → IfSome next (λ step. (answer : Answer)
    → WithinTurns s.rules.turns (reverse (records ++ made s.text.task step answer ∷ []))))
    → IfSome next (MakesNextIn world.tasks.items task)
makes_next world task machine None stands says only within = tt
makes_next world task machine (Some step) stands says only within =
    record { machine = machine; stands = stands; makes = record { says = says; only = only; within = within } }

pub goes_on : ((run : Run) (records : List Record) (world : World) (task : ℕ) (step : Step) → LeadsTo run records world
    → MakesNextIn world.tasks.items task step → GoesOnWith run task records step)
    → (run : Run) (records : List Record) (world : World) (task : ℕ) (next : Option Step) → LeadsTo run records world
    → IfSome next (MakesNextIn world.tasks.items task) → IfSome next (GoesOnWith run task records)
goes_on law run records world task None leads makes = tt
goes_on law run records world task (Some step) leads makes = law run records world task step leads makes
