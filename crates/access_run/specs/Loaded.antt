-- What an access has loaded: where an exchange is next, the word that this compares its cell with; else the value that was read of the bytes,
-- and 0 where none was, as by a write.
use Rattle.std.specs.Prelude.{ℕ, unwrap_or}
use Rattle.access_run.specs.declared.memory_operation.effect.Effect.{Effect}
use Rattle.access_run.specs.declared.memory_operation.stage.OperationStage.{OperationStage}
use Rattle.access_run.specs.declared.memory_operation.stage.OperationStage.TheVariants as operates
use Rattle.access_run.specs.declared.stage.AccessStage.{AccessStage}
use Rattle.access_run.specs.declared.stage.AccessStage.TheVariants as stages

abbrev pub operation_loaded : Effect → OperationStage → ℕ
operation_loaded effect operates.Over = unwrap_or effect.read 0
operation_loaded effect (operates.Load operation) = unwrap_or effect.read 0
operation_loaded effect (operates.Exchange change seen tries) = seen

abbrev pub access_loaded : AccessStage → ℕ
access_loaded (stages.Check run) = 0
access_loaded (stages.Operate run) = operation_loaded run.effect run.stage
access_loaded (stages.End effect) = unwrap_or effect.read 0
access_loaded (stages.Over effect) = unwrap_or effect.read 0
