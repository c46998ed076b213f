-- When the accesses of a task begin and end.
use Rattle.std.specs.Prelude.{◌≡◌, ◌++◌, ℕ, Bool, List, ◌∷◌, false, true}
use Rattle.access_types.specs.Stamped.{Stamped}
use Rattle.access_types.specs.declared.history.Happening.{Happening}
use Rattle.access_types.specs.declared.history.Happening.TheVariants.{Begin, End}
use Rattle.executions.specs.execution.Run.{Run}
use Rattle.executions.specs.execution.Execution.{Execution}
use Rattle.executions.specs.execution.Observed.{made_by}
use Rattle.slot_table.specs.declared.records.Record.{Record}
use Rattle.slot_table.specs.declared.step.Answer.TheVariants.{Word}
use Rattle.program_order.specs.TaskObserved.{did_next}

-- a record of the list with which the task did this first of all, and of which the clock's answer was this
-- stamp
pub record HappensAt {run : Run} {all : List Record} (list : Execution run all) (task : ℕ) (happening : Happening)
    (stamp : ℕ) : Type 0 where
  pub later : List Record
  pub latest : Record
  pub earlier : List Record
  pub split : all ≡ later ++ latest ∷ earlier
  pub mine : latest.task ≡ task
  pub answer : latest.answer ≡ Word stamp
  pub marks : List Happening
  pub did : did_next (list.tasks latest.task) (made_by latest.task earlier) ≡ happening ∷ marks

-- an access that has ended: it began and ended in the list, at these stamps
pub record IsSpan {run : Run} {all : List Record} (list : Execution run all) (task : ℕ) (stamped : Stamped) :
    Type 0 where
  pub begins : HappensAt list task (Begin stamped.access) stamped.begin
  pub ends : HappensAt list task (End stamped.access) stamped.end

abbrev pub is_end : Happening → Bool
is_end (End a) = true
is_end happening = false
