-- Where tasks lead that are asked for steps.
use Rattle.std.specs.Prelude.{◌≡◌, ◌⊎◌, ◌∷◌, [], ℕ, List}
use Rattle.executions.specs.execution.Run.{Run}
use Rattle.litmus_step.specs.Steps.{LeadsTo, MakesNoStep}
use Rattle.litmus_step.specs.declared.world.World.{World}
use Rattle.slot_table.specs.declared.records.Record.{Record}

-- one record more, of this task
abbrev pub IsMade : (task : ℕ) → (before after : List Record) → Type 0
IsMade task before after = (made : Record) × (made.task ≡ task) × (after ≡ made ∷ before)

-- a task that is asked makes one step, or none where it makes no step more
abbrev pub IsAsked : Run → (task : ℕ) → (before after : List Record) → Type 0
IsAsked run task before after =
    (MakesNoStep run before task × (after ≡ before)) ⊎ ((¬ MakesNoStep run before task) × IsMade task before after)

-- the tasks of this order are asked, one after the other
abbrev pub AreAsked : Run → (order : List ℕ) → (before after : List Record) → Type 0
AreAsked run [] before after = after ≡ before
AreAsked run (task ∷ order) before after =
    (between : List Record) × IsAsked run task before between × AreAsked run order between after

-- so the one world leads to the other
abbrev pub Asks : (order : List ℕ) → (before after : World) → Type 0
Asks order before after = (run : Run) (records : List Record) → LeadsTo run records before
    → (more : List Record) × LeadsTo run more after × AreAsked run order records more

-- so it does by some order
abbrev pub AsksSome : (before after : World) → Type 0
AsksSome before after = (order : List ℕ) × Asks order before after
