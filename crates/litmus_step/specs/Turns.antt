-- What is known of the tasks of a world that a list leads to, and worlds to which tasks that are asked lead.
use Rattle.std.specs.Prelude.{◌≡◌, ◌++◌, ◌<◌, ◌≤◌, ◌+◌, ◌∷◌, ℕ, List, length}
use Rattle.executions.specs.execution.Run.{Run}
use Rattle.executions.specs.execution.Execution as execution
use Rattle.slot_table.specs.declared.records.Record.{Record}
use Rattle.prepared_program.specs.step_schedule.Order.{AreAsked, IsOrder, Tasks}
use Rattle.prepared_program.specs.declared.step_schedule.schedule.Entry.{Entry}
use Rattle.litmus_step.specs.Runs.{HasEnded, IsStuck, tasks_of}
use Rattle.litmus_step.specs.Steps.{IsFree, IsMachine, LeadsTo, tasks_in}
use Rattle.prepared_program.specs.declared.program_sites.error.RunError.{RunError}
use Rattle.prepared_program.specs.declared.program_sites.error.RunError.TheVariants as errors
use Rattle.litmus_step.specs.declared.world.World.{World}
use Rattle.task_run.specs.declared.run.TaskRun.{TaskRun}

-- a list of steps, the latest record first, and the world that it leads to
pub record WorldAfter : Type 0 where
  pub records : List Record
  pub world : World

abbrev pub point : List Record → World → WorldAfter
point records world = record { records = records; world = world }

-- a task that moves makes one record more, with which the list leads on
abbrev pub Moves : Run → ℕ → WorldAfter → WorldAfter → Type 0
Moves run task before after =
    (made : Record) × (made.task ≡ task) × (after.records ≡ made ∷ before.records)
    × LeadsTo run after.records after.world

abbrev pub known_of : Run → Tasks WorldAfter
known_of run = record {
  Moves = Moves run;
  HasEnded = λ task at. HasEnded run task at.records;
  IsStuck = λ task at. IsStuck run task at.records;
}

-- tasks were asked in this order: each list that leads to the world before, followed by records in this order, leads to
-- the world after
abbrev pub Asked : World → List ℕ → World → Type 0
Asked before order after = (run : Run) (records : List Record) → LeadsTo run records before
    → (more : List Record) × LeadsTo run more after
    × AreAsked (known_of run) (tasks_of run) (point records before) order (point more after)

-- a list that is longer by so much, at least, leads to the world after
abbrev pub LeadsFurther : ℕ → World → World → Type 0
LeadsFurther count before after = (run : Run) (records : List Record) → LeadsTo run records before
    → (more : List Record) × LeadsTo run more after × (length records + count ≤ length more)

-- no task of the world is stuck
abbrev pub NobodyIsStuck : World → Type 0
NobodyIsStuck world = (task : ℕ) (machine : TaskRun) → IsMachine world task machine → IsFree machine

-- this one is, by whatever list leads to the world
abbrev pub IsStuckAt : World → ℕ → Type 0
IsStuckAt world task = (run : Run) (records : List Record) → LeadsTo run records world
    → IsStuck run task records

-- all tasks have ended, by whatever list leads to the world
abbrev pub AllHaveEnded : World → Type 0
AllHaveEnded world = (run : Run) (records : List Record) → LeadsTo run records world
    → execution.AllHaveEnded run records

-- the error is that a task is stuck, which is so now, once tasks were asked in this order or a beginning of it
pub record StopsAt (before : World) (order : List ℕ) (after : World) (error : RunError) : Type 0 where
  pub task : ℕ
  pub is : error ≡ errors.Stuck task
  pub there : task < tasks_in after
  pub stuck : IsStuckAt after task
  pub front : List ℕ
  pub later : List ℕ
  pub spelled : front ++ later ≡ order
  pub asked : Asked before front after

-- tasks were asked as the entries say, and then in turn
pub record RunsOn (before : World) (entries : List Entry) (after : World) : Type 0 where
  pub order : List ℕ
  pub in_order : IsOrder entries (tasks_in before) order
  pub asked : Asked before order after
