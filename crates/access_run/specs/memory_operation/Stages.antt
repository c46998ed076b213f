-- What an operation has left to do, by its stage.
use Rattle.std.specs.Prelude.{◌≡◌, ◌↔◌, ◌-◌, ◌^◌, ◌++◌, ℕ, true, List, [], ◌∷◌, Option, None, Some, min, if◌then◌else◌}
use Rattle.access_types.specs.Access.{Access}
use Rattle.access_run.specs.memory_operation.Effects.{and_then, change_did, did, nothing, only_read}
use Rattle.access_run.specs.memory_operation.Operations.{Exchanges, OperatesIn}
use Rattle.access_run.specs.memory_operation.Values.{is_wanted, new_value, sum_of, with_value}
use Rattle.access_run.specs.memory_operation.Waits.{failed_tries}
use Rattle.access_run.specs.declared.memory_operation.effect.Effect.{Effect}
use Rattle.access_run.specs.declared.memory_operation.operation.Change.{Change}
use Rattle.access_run.specs.declared.memory_operation.operation.Change.TheVariants as changes
use Rattle.access_run.specs.declared.memory_operation.operation.Operation.{Operation}
use Rattle.access_run.specs.declared.memory_operation.operation.Operation.TheVariants as operations
use Rattle.access_run.specs.declared.memory_operation.stage.OperationStage.{OperationStage}
use Rattle.access_run.specs.declared.memory_operation.stage.OperationStage.TheVariants as stages
use Rattle.access_run.specs.declared.memory_operation.stage.Transition.{Transition}
use Rattle.setup_access.specs.Values.{value_in}
use Rattle.setup_access.specs.declared.source.Source.{Source}
use Rattle.slot_table.specs.declared.records.Record.{Record}
use Rattle.slot_table.specs.declared.step.Step.{Step}
use Rattle.slot_table.specs.declared.step.Step.TheVariants.{CellExchange, CellLoad}

-- the step that a stage makes next
abbrev pub stage_step : Access → Source → OperationStage → Option Step
stage_step a source stages.Over = None
stage_step a source (stages.Load operation) = Some (CellLoad source.cell)
stage_step a source (stages.Exchange change seen tries) = Some (CellExchange source.cell seen
    (with_value a source seen (new_value a.size change (value_in a source seen))))

-- the records are what a stage has left, and this still comes of it
abbrev pub StageLeft : ℕ → Access → Source → OperationStage → List Record → Effect → Type 0
StageLeft task a source stages.Over records effect = (effect ≡ nothing) × ([] ≡ records)
StageLeft task a source (stages.Load operation) records effect =
    OperatesIn task a source operation records effect []
StageLeft task a source (stages.Exchange change seen tries) records effect =
    Exchanges task a source change seen records effect []

-- what more records do
abbrev pub stage_did : Access → Source → OperationStage → List Record → Effect
stage_did a source stages.Over records = nothing
stage_did a source (stages.Load operation) records = did a source operation records
stage_did a source (stages.Exchange change seen tries) records =
    change_did a source change records

-- this is so of whatever records may follow; on what is over none follow
abbrev pub Follow : OperationStage → (List Record → Type 0) → Type 0
Follow stages.Over P = P []
Follow (stages.Load operation) P = (later : List Record) → P later
Follow (stages.Exchange change seen tries) P = (later : List Record) → P later

-- a change is at an exchange only where it saw a value that is wanted
abbrev pub IsReady : Access → Source → OperationStage → Type 0
IsReady a source stages.Over = Unit {0}
IsReady a source (stages.Load operation) = Unit {0}
IsReady a source (stages.Exchange change seen tries) =
    is_wanted a.size change (value_in a source seen) ≡ true

-- the failed tries at the end of these records are counted, up to the last count that there is
abbrev pub Counts : OperationStage → List Record → Type 0
Counts stages.Over records = Unit {0}
Counts (stages.Load operation) records = failed_tries records ≡ 0
Counts (stages.Exchange change seen tries) records = tries ≡ min (failed_tries records) (2 ^ 64 - 1)

-- a record of a stage's step leads to another stage: what the one has left from it on is what the
-- other has left after it
pub record Turns (task : ℕ) (a : Access) (source : Source) (stage : OperationStage) (first : Record)
    (turn : Transition) : Type 0 where
  pub left : (later : List Record) (effect : Effect)
      → StageLeft task a source stage (first ∷ later) effect
      ↔ ((more : Effect) × StageLeft task a source turn.stage later more
      × (effect ≡ and_then turn.effect more))
  pub did : Follow turn.stage (λ later. stage_did a source stage (first ∷ later)
      ≡ and_then turn.effect (stage_did a source turn.stage later))
  pub ready : IsReady a source turn.stage
  pub counts : (records : List Record) → Counts stage records
      → Counts turn.stage (records ++ first ∷ [])

-- a change was shown a word: it goes on from it, or ends where its value isn't wanted
abbrev pub shown_turn : Access → Source → Change → ℕ → ℕ → Transition
shown_turn a source change word tries =
    if is_wanted a.size change (value_in a source word)
    then record { stage = stages.Exchange change word tries; effect = nothing }
    else record { stage = stages.Over; effect = only_read (value_in a source word) }

-- the cell was loaded
abbrev pub loaded_turn : Access → Source → Operation → ℕ → Transition
loaded_turn a source operations.Load word =
    record { stage = stages.Over; effect = only_read (value_in a source word) }
loaded_turn a source (operations.Add amount) word =
    let old = value_in a source word in
    record {
      stage = stages.Load (operations.Change (changes.Write (sum_of a.size old amount)));
      effect = only_read old;
    }
loaded_turn a source (operations.Change change) word = shown_turn a source change word 0
