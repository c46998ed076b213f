-- What a machine says of its next step.
use Rattle.std.specs.Prelude.{◌⊎◌, ℕ, List, Option}
use Rattle.litmus_step.specs.Steps.{Reaches}
use Rattle.litmus_syntax.specs.Tree.{Block}
use Rattle.setup_access.specs.declared.begun.Begun.{Begun}
use Rattle.slot_table.specs.declared.records.Record.{Record}
use Rattle.task_run.specs.Leads.{BeginsNext, Leads, stands_at}
use Rattle.task_run.specs.declared.run.TaskRun.{TaskRun}
use Rattle.program_order.specs.Standing.{Setting}
use Rattle.program_order.specs.Waits as waits
use Rattle.program_order.specs.WrittenOrder.{SpellsAll}

-- this access begins with the next step, by whatever records lead to the machine
abbrev pub SaysBegin : TaskRun → Option Begun → Type 0
SaysBegin machine begins = (s : Setting) (registers : ℕ) (body : Block) (records : List Record)
    → (leads : Leads s registers body records machine)
    → (later : List Record) → BeginsNext s leads.part (stands_at leads later) leads.mine begins

-- whatever records reach it, they spell the task's whole text, or end in a wait with as many failed tries as are
-- allowed
abbrev pub MakesNoMore : TaskRun → Type 0
MakesNoMore machine = (s : Setting) (registers : ℕ) (body : Block) (records : List Record)
    → Reaches s registers body records machine → SpellsAll s registers body records ⊎ waits.IsStuck s registers body records
