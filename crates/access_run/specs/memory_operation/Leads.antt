-- What is true of an operation under way, by its records so far.
use Rattle.std.specs.Prelude.{◌≡◌, ◌↔◌, ◌++◌, ◌<◌, ◌≤◌, ◌⊎◌, ℕ, List, [], ◌∷◌, Some}
use Rattle.access_types.specs.Access.{Access}
use Rattle.access_run.specs.memory_operation.Effects.{and_then, did}
use Rattle.access_run.specs.memory_operation.Operations.{OperatesIn}
use Rattle.access_run.specs.memory_operation.Stages.{Counts, Follow, IsReady, StageLeft, stage_did, stage_step}
use Rattle.access_run.specs.memory_operation.Waits.{failed_tries}
use Rattle.access_run.specs.declared.memory_operation.effect.Effect.{Effect}
use Rattle.access_run.specs.declared.memory_operation.operation.Operation.{Operation}
use Rattle.access_run.specs.declared.memory_operation.run.OperationRun.{OperationRun}
use Rattle.setup_access.specs.declared.source.Source.{Source}
use Rattle.slot_table.specs.Answer.{Answers}
use Rattle.slot_table.specs.declared.records.Record.{Record}
use Rattle.slot_table.specs.declared.step.Step.{Step}

-- the operation is before this step
abbrev pub Says : OperationRun → Step → Type 0
Says run step = stage_step run.access run.source run.stage ≡ Some step

-- An operation of a task on an access's bytes leads, by these records so far, to where it is:
-- whatever completes the records completes what is left, what the records did is what came of it so
-- far, and the failed tries are counted.
pub record Leads (task : ℕ) (a : Access) (source : Source) (operation : Operation)
    (records : List Record) (run : OperationRun) : Type 0 where
  pub of_access : run.access ≡ a
  pub in_source : run.source ≡ source
  pub left : (later : List Record) (effect : Effect)
      → OperatesIn task a source operation (records ++ later) effect []
      ↔ ((more : Effect) × StageLeft task a source run.stage later more
      × (effect ≡ and_then run.effect more))
  pub did : Follow run.stage (λ later. did a source operation (records ++ later)
      ≡ and_then run.effect (stage_did a source run.stage later))
  pub ready : IsReady a source run.stage
  pub counts : Counts run.stage records

-- the records go on with this step of the task, and an answer that it may have
abbrev pub GoesOn : ℕ → Step → List Record → Type 0
GoesOn task step [] = ⊥
GoesOn task step (first ∷ later) =
    (first.task ≡ task) × (first.step ≡ step) × Answers step first.answer

-- whatever completes the records so far goes on with this step
abbrev pub OnlyStep : ℕ → Access → Source → Operation → List Record → Step → Type 0
OnlyStep task a source operation records step = (later : List Record) (effect : Effect)
    → OperatesIn task a source operation (records ++ later) effect [] → GoesOn task step later

-- the records are all of the operation
abbrev pub IsDone : ℕ → Access → Source → Operation → List Record → Type 0
IsDone task a source operation records =
    (effect : Effect) × OperatesIn task a source operation records effect []

-- The operation isn't done, and its exchange was refused so often as failed tries are allowed. It
-- waits only once an exchange was refused.
abbrev pub IsStuck : ℕ → ℕ → Access → Source → Operation → List Record → Type 0
IsStuck turns task a source operation records =
    (¬ IsDone task a source operation records) × (0 < failed_tries records)
    × (turns ≤ failed_tries records)

-- no step follows on the records: they are all of the operation, or stuck
abbrev pub IsOperationOver : ℕ → ℕ → Access → Source → Operation → List Record → Type 0
IsOperationOver turns task a source operation records =
    IsDone task a source operation records ⊎ IsStuck turns task a source operation records

-- the records are all of the operation, this and nothing else comes of it, and nothing goes on with
-- them
pub record IsComplete (task : ℕ) (a : Access) (source : Source) (operation : Operation)
    (records : List Record) (effect : Effect) : Type 0 where
  pub operates : OperatesIn task a source operation records effect []
  pub alone : (later : List Record) (other : Effect)
      → OperatesIn task a source operation (records ++ later) other []
      → (later ≡ []) × (other ≡ effect)
