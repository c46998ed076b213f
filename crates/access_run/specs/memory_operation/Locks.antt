-- The tries of a lock.
use Rattle.std.specs.Prelude.{◌≡◌, ℕ, List, [], ◌∷◌, MatchBool}
use Rattle.setup_access.specs.Records.{OnFlag}
use Rattle.slot_table.specs.declared.records.Record.{Record}
use Rattle.slot_table.specs.declared.step.Step.TheVariants.{LockTry}

-- the records begin with tries of a lock, up to the one that finds it free
abbrev pub TakesLock : ℕ → ℕ → List Record → List Record → Type 0
TakesLock task lock [] rest = ⊥
TakesLock task lock (first ∷ later) rest =
    (first.task ≡ task) × (first.step ≡ LockTry lock task)
    × OnFlag first.answer (λ was_free.
    MatchBool was_free (rest ≡ later) (TakesLock task lock later rest))
