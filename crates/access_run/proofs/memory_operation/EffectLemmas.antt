-- What comes of one thing after another, and how failed tries are counted.
use Rattle.std.proofs.Common.{◌≡◌, ◌+◌, ◌++◌, ◌∷◌, [], ℕ, true, false, List, Option, None, Some, refl, if◌then◌else◌}
use Rattle.access_types.specs.Access.{Access}
use Rattle.access_run.specs.memory_operation.Effects.{and_then, first_of, nothing}
use Rattle.access_run.specs.memory_operation.Stages.{Follow, stage_did, stage_step}
use Rattle.access_run.specs.memory_operation.Waits.{is_refused, failed_from, failed_tries}
use Rattle.access_run.specs.declared.memory_operation.effect.Effect.{Effect}
use Rattle.access_run.specs.declared.memory_operation.operation.Operation.TheVariants as operations
use Rattle.access_run.specs.declared.memory_operation.stage.OperationStage.{OperationStage}
use Rattle.access_run.specs.declared.memory_operation.stage.OperationStage.TheVariants as stages
use Rattle.setup_access.specs.declared.source.Source.{Source}
use Rattle.slot_table.specs.declared.records.Record.{Record}
use Rattle.slot_table.specs.declared.step.Step.{Step}

first_assoc : (a b c : Option ℕ) → first_of (first_of a b) c ≡ first_of a (first_of b c)
first_assoc None b c = refl
first_assoc (Some value) b c = refl

first_none : (a : Option ℕ) → first_of a None ≡ a
first_none None = refl
first_none (Some value) = refl

-- an effect of two values
abbrev of : Option ℕ → Option ℕ → Effect
of read written = record { read = read; written = written }

pub then_assoc : (a b c : Effect) → and_then (and_then a b) c ≡ and_then a (and_then b c)
then_assoc a b c =
    let reads = first_assoc a.read b.read c.read in
    let writes = first_assoc a.written b.written c.written in
    rw (reads, writes) refl

pub then_nothing : (a : Effect) → and_then a nothing ≡ a
then_nothing a = rw (first_none a.read, first_none a.written) refl

-- the last record counts by itself
failed_after : (records : List Record) (last : Record) (tries : ℕ)
    → failed_from tries (records ++ last ∷ [])
    ≡ (if is_refused last then failed_from tries records + 1 else 0)
failed_after [] last tries = refl
failed_after (first ∷ later) last tries =
    failed_after later last (if is_refused first then tries + 1 else 0)

pub failed_refused : (records : List Record) (last : Record) → is_refused last ≡ true
    → failed_tries (records ++ last ∷ []) ≡ failed_tries records + 1
failed_refused records last holds = rw (failed_after records last 0, holds) refl

pub failed_none : (records : List Record) (last : Record) → is_refused last ≡ false
    → failed_tries (records ++ last ∷ []) ≡ 0
failed_none records last fails = rw (failed_after records last 0, fails) refl

-- nothing follows yet
pub follow_none : (stage : OperationStage) (P : List Record → Type 0) → Follow stage P → P []
follow_none stages.Over P h = h
follow_none (stages.Load operation) P h = h []
follow_none (stages.Exchange change seen tries) P h = h []

-- a stage with a step isn't over
pub follow_on : (a : Access) (source : Source) (stage : OperationStage) (step : Step) (P : List Record → Type 0) (later : List Record)
    → stage_step a source stage ≡ Some step → Follow stage P → P later
follow_on a source stages.Over step P later is h = absurd (let never : None ≡ Some step = is in cc)
follow_on a source (stages.Load operation) step P later is h = h later
follow_on a source (stages.Exchange change seen tries) step P later is h = h later

pub follow_map : (stage : OperationStage) (P Q : List Record → Type 0) → ((later : List Record) → P later → Q later)
    → Follow stage P → Follow stage Q
follow_map stages.Over P Q map h = map [] h
follow_map (stages.Load operation) P Q map h = λ later. map later (h later)
follow_map (stages.Exchange change seen tries) P Q map h = λ later. map later (h later)

-- no records did nothing
pub nothing_did : (a : Access) (source : Source) (stage : OperationStage) → stage_did a source stage [] ≡ nothing
nothing_did a source stages.Over = refl
nothing_did a source (stages.Load operations.Load) = refl
nothing_did a source (stages.Load (operations.Add amount)) = refl
nothing_did a source (stages.Load (operations.Change change)) = refl
nothing_did a source (stages.Exchange change seen tries) = refl
