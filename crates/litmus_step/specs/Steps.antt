-- Which lists of steps lead to a world, and what a step of a task does to it.
use Rattle.std.specs.Prelude.{◌≡◌, ◌⊎◌, ◌≤◌, ◌^◌, ◌∷◌, ℕ, List, Some, map, slice_get, vec_capacity, vec_len}
use Rattle.litmus_step.specs.Kept.{rooms_of}
use Rattle.litmus_step.specs.Leads.{LeadsToAll}
use Rattle.litmus_step.specs.Runs.{HasEnded, IsStuck}
use Rattle.litmus_step.specs.declared.world.Stepped.{Stepped}
use Rattle.litmus_step.specs.declared.world.Stepped.TheVariants.{Ended, Moved, Stuck}
use Rattle.litmus_step.specs.declared.world.World.{World}
use Rattle.litmus_syntax.specs.Limits.{BlockScopes, block_rises}
use Rattle.litmus_syntax.specs.Tree.{Block}
use Rattle.executions.specs.execution.Run.{Run}
use Rattle.slot_table.specs.declared.records.Record.{Record}
use Rattle.task_log.specs.Keeps as task_log
use Rattle.task_run.specs.Leads.{Leads}
use Rattle.task_run.specs.Room.{task_room}
use Rattle.task_run.specs.declared.run.TaskRun.{TaskRun}
use Rattle.program_order.specs.Standing.{Setting}
use Rattle.program_order.specs.Waits as waits
use Rattle.program_order.specs.WrittenOrder.{SpellsAll, WrittenOrder}

-- the list, the latest record first, is an execution and leads to the world
abbrev pub LeadsTo : Run → List Record → World → Type 0
LeadsTo run records world =
    LeadsToAll run records world.board world.tasks.items world.steps world.logs.items world.reports.items
    (vec_capacity world.reports)

-- how many tasks the world has
abbrev pub tasks_in : World → ℕ
tasks_in world = vec_len world.tasks

-- what the lists of a world can hold before they take memory: its tasks, the lists of each of them, what the tasks did,
-- with what is kept of each, and reports. The board's lists can't grow.
pub record Room : Type 0 where
  pub tasks : ℕ
  pub machines : List (List ℕ)
  pub logs : ℕ
  pub each : List task_log.Room
  pub reports : ℕ

abbrev pub room_in : World → Room
room_in world =
    record {
      tasks = vec_capacity world.tasks;
      machines = map task_room world.tasks.items;
      logs = vec_capacity world.logs;
      each = rooms_of world.logs.items;
      reports = vec_capacity world.reports;
    }

-- the machine of a task
abbrev pub IsMachine : World → ℕ → TaskRun → Type 0
IsMachine world task machine = slice_get world.tasks.items task ≡ Some machine

-- the task makes no step more: it has made those of its whole text, or is stuck
abbrev pub MakesNoStep : Run → List Record → ℕ → Type 0
MakesNoStep run records task = HasEnded run task records ⊎ IsStuck run task records

-- one record more of the task leads on
pub record MovesOn (run : Run) (records : List Record) (task : ℕ) (after : World) : Type 0 where
  pub made : Record
  pub own : made.task ≡ task
  pub leads : LeadsTo run (made ∷ records) after

-- A task that makes no step more leaves the world as it is. Else the list that leads to it, followed by one record of
-- the task, leads on.
abbrev pub StepsOn : Run → List Record → ℕ → World → World → Type 0
StepsOn run records task before after =
    (MakesNoStep run records task × (after ≡ before))
    ⊎ ((¬ MakesNoStep run records task) × MovesOn run records task after)

-- records in the written order of a text that keeps the limits lead to a machine
pub record Reaches (s : Setting) (registers : ℕ) (body : Block) (records : List Record) (machine : TaskRun) :
    Type 0 where
  pub leads : Leads s registers body records machine
  pub written : WrittenOrder s registers body records
  pub scopes : BlockScopes 0 body
  pub rises : block_rises body ≤ 2 ^ 32

-- whatever records reach a machine, they leave the task in no wait with as many failed tries as are allowed
abbrev pub IsFree : TaskRun → Type 0
IsFree machine = (s : Setting) (registers : ℕ) (body : Block) (records : List Record)
    → Reaches s registers body records machine → ¬ waits.IsStuck s registers body records

-- whatever records reach it, they leave the task in such a wait
abbrev pub IsFailedWait : TaskRun → Type 0
IsFailedWait machine = (s : Setting) (registers : ℕ) (body : Block) (records : List Record)
    → Reaches s registers body records machine → waits.IsStuck s registers body records

-- whatever records reach it, they spell the task's whole text
abbrev pub IsTaskOver : TaskRun → Type 0
IsTaskOver machine = (s : Setting) (registers : ℕ) (body : Block) (records : List Record)
    → Reaches s registers body records machine → SpellsAll s registers body records

-- whatever records reach it, they don't
abbrev pub GoesOn : TaskRun → Type 0
GoesOn machine = (s : Setting) (registers : ℕ) (body : Block) (records : List Record)
    → Reaches s registers body records machine → ¬ SpellsAll s registers body records

-- what is told of a machine
abbrev pub SteppedLeaves : Stepped → TaskRun → Type 0
SteppedLeaves Moved machine = IsFree machine × GoesOn machine
SteppedLeaves Ended machine = IsFree machine × IsTaskOver machine
SteppedLeaves Stuck machine = IsFailedWait machine
