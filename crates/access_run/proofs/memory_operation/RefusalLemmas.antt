-- Where no pair is loaded it doesn't matter which half of one is waited for.
use Rattle.std.proofs.Common.{◌≡◌, ◌≢◌, ◌+◌, ◌∙◌, ℕ, Bool, List, [], ◌∷◌, None, Option, ap, refl, if◌then◌else◌}
use Rattle.access_run.specs.memory_operation.Waits.{LoadNoPair, is_refused, failed_from, failed_tries}
use Rattle.setup_access.specs.Waits as checks
use Rattle.setup_access.specs.Waits.{awaited, is_failed}
use Rattle.slot.specs.Pair.{Halves}
use Rattle.slot_table.specs.declared.records.Record.{Record}
use Rattle.slot_table.specs.declared.step.Answer.{Answer}
use Rattle.slot_table.specs.declared.step.Step.{Step}
use Rattle.slot_table.specs.declared.step.Step.TheVariants.{CellExchange, CellLoad, Clear, Clock, Consume, Insert, Load, LockStore, LockTry, Name, PairLoad, Remove, Tell, TryConsume}

no_half : (half : Option (Halves → ℕ)) (step : Step) (answer : Answer) → ((index : ℕ) → step ≢ PairLoad index) → is_failed None step answer ≡ is_failed half step answer
no_half half (Load at) answer none = refl
no_half half (Insert at word) answer none = refl
no_half half (TryConsume at word) answer none = refl
no_half half (Consume at) answer none = refl
no_half half (Remove at) answer none = refl
no_half half (PairLoad at) answer none = absurd (none at refl)
no_half half (Name at ticket) answer none = refl
no_half half (Tell at ticket) answer none = refl
no_half half (Clear at) answer none = refl
no_half half (CellLoad cell) answer none = refl
no_half half (CellExchange cell seen new) answer none = refl
no_half half (LockTry lock task) answer none = refl
no_half half (LockStore lock) answer none = refl
no_half half Clock answer none = refl

as_many_from : (half : Option (Halves → ℕ)) (tries : ℕ) (records : List Record) → LoadNoPair records → failed_from tries records ≡ checks.failed_from half tries records
as_many_from half tries [] none = refl
as_many_from half tries (first ∷ later) none =
    as_many_from (awaited half first.step) (if is_refused first then tries + 1 else 0) later none.1
    ∙ ap (λ (b : Bool). checks.failed_from (awaited half first.step) (if b then tries + 1 else 0) later) (no_half half first.step first.answer none.0)

pub as_many : (records : List Record) → LoadNoPair records → failed_tries records ≡ checks.failed_tries records
as_many records none = as_many_from None 0 records none
