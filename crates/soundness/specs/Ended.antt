-- Takings whose two accesses have ended.
use Rattle.std.specs.Prelude.{◌≡◌, ◌++◌, ◌∷◌, List, Contains, length}
use Rattle.access_types.specs.Access.{Access}
use Rattle.access_types.specs.History.{InProgress, ending}
use Rattle.executions.specs.execution.Run.{Run}
use Rattle.executions.specs.execution.Execution.{Execution}
use Rattle.executions.specs.execution.Observed.{history_by, history_of}
use Rattle.slot_table.specs.declared.records.Record.{Record}

-- A record of this kind stands in the list, and an access of its task that was in progress as it was made
-- has its end in the history that the list tells.
pub record HasEndedSince {run : Run} {records : List Record} (list : Execution run records)
    (P : Record → List Record → Type 0) : Type 0 where
  pub later : List Record
  pub made : Record
  pub earlier : List Record
  pub split : records ≡ later ++ made ∷ earlier
  pub is : P made earlier
  pub access : Access
  pub mine : access.task ≡ made.task
  pub goes : InProgress (history_of list) access (length (history_by list earlier))
  pub ended : Contains (history_of list) (ending access)
