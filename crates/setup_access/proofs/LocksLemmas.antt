-- A check touches no lock: what holds of the records after it, and of a list with one more step in front that is none
-- of a lock, holds of its records.
use Rattle.std.proofs.Common.{◌||◌, [], ◌∷◌, ℕ, Bool, List, subst, sym}
use Rattle.slot_table.specs.declared.records.Record.{Record}
use Rattle.slot_table.specs.declared.step.Step.{Step}
use Rattle.slot_table.specs.declared.step.Step.TheVariants.{CellExchange, CellLoad, Clear, Clock, Consume, Insert, Load, LockStore, LockTry, Name, PairLoad, Remove, Tell, TryConsume}
use Rattle.setup_access.specs.Check.{Check, Close, Passes, left_to_check}
use Rattle.setup_access.specs.Records.{MakesWord}
use Rattle.setup_access.specs.Setting.{Setting}
use Rattle.setup_access.specs.declared.begun.Begun.{Begun}
use Rattle.setup_access.proofs.QuietSteps.{IsOfCheck, ends, on_word, once, pick, rechecks}

-- the step is none of a lock
abbrev pub TouchesNoLock : Step → Type 0
TouchesNoLock (Load index) = Unit {0}
TouchesNoLock (Insert index word) = Unit {0}
TouchesNoLock (TryConsume index word) = Unit {0}
TouchesNoLock (Consume index) = Unit {0}
TouchesNoLock (Remove index) = Unit {0}
TouchesNoLock (PairLoad index) = Unit {0}
TouchesNoLock (Name index ticket) = Unit {0}
TouchesNoLock (Tell index ticket) = Unit {0}
TouchesNoLock (Clear index) = Unit {0}
TouchesNoLock (CellLoad cell) = Unit {0}
TouchesNoLock (CellExchange cell expected new) = Unit {0}
TouchesNoLock (LockTry lock holder) = ⊥
TouchesNoLock (LockStore lock) = ⊥
TouchesNoLock Clock = Unit {0}

-- a step of a check is none of a lock
no_lock : (step : Step) → IsOfCheck step → TouchesNoLock step
no_lock (Load index) is = tt
no_lock (Insert index word) is = tt
no_lock (TryConsume index word) is = tt
no_lock (Consume index) is = tt
no_lock (Remove index) is = tt
no_lock (PairLoad index) is = tt
no_lock (Name index ticket) is = tt
no_lock (Tell index ticket) is = tt
no_lock (Clear index) is = tt
no_lock (CellLoad cell) is = tt
no_lock (CellExchange cell expected new) is = tt
no_lock (LockTry lock holder) is = is
no_lock (LockStore lock) is = is
no_lock Clock is = tt

module _ (P : List Record → Type 0) (before : (first : Record) (later : List Record) → TouchesNoLock first.step → P later → P (first ∷ later)) where
  of_check : (first : Record) (later : List Record) → IsOfCheck first.step → P later → P (first ∷ later)
  of_check first later is p = before first later (no_lock first.step is) p

  clocked : (task : ℕ) (Goes : ℕ → List Record → Type 0) (records : List Record) → MakesWord task Clock Goes records
      → ((word : ℕ) (later : List Record) → Goes word later → P later) → P records
  clocked task Goes [] h on = absurd h
  clocked task Goes (first ∷ later) h on =
      before first later (subst TouchesNoLock (sym h.1) tt) (on_word first.answer _ _ h.2 (λ word got. on word later got))

  -- a check
  pub check_leaves_locks : (s : Setting) (scopes : List Begun) (begun : Begun) (asked : ℕ) (records : List Record) (passes : Passes) (rest : List Record)
      → Check s scopes begun asked records passes rest → P rest → P records
  check_leaves_locks s scopes begun asked records passes rest h p = clocked s.task _ records h.2 (λ stamp later got.
      pick P of_check begun.silenced _ _ _ got (λ quiet. ends P of_check later rest quiet.1 p)
      (λ now. once P of_check s begun.access begun.marked asked later now.0 now.1 now.3
      (rechecks P of_check s (left_to_check now.0.settled scopes) now.0.asked now.1 (record { outcomes = now.2; asked = passes.asked }) rest now.4 p)))

  -- and a close
  pub close_leaves_locks : (s : Setting) (scope : Begun) (silenced : Bool) (asked : ℕ) (records : List Record) (passes : Passes) (rest : List Record)
      → Close s scope silenced asked records passes rest → P rest → P records
  close_leaves_locks s scope silenced asked records passes rest h p =
      rechecks P of_check s ((record scope { silenced = scope.silenced || silenced }) ∷ []) asked records passes h.1.0 h.1.1
      (clocked s.task _ h.1.0 h.1.2 (λ stamp after over. ends P of_check after rest over p))
