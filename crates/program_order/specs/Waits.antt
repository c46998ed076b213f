-- How many failed tries a task has, and when it is stuck.
use Rattle.std.specs.Prelude.{◌==◌, ◌&&◌, ◌++◌, ◌<◌, ◌≤◌, ℕ, suc, Bool, false, List, [], ◌∷◌, None, if◌then◌else◌, reverse}
use Rattle.litmus_syntax.specs.Tree.{Block}
use Rattle.access_run.specs.memory_operation.Leads.{GoesOn}
use Rattle.slot_table.specs.declared.records.Record.{Record}
use Rattle.slot_table.specs.declared.step.Answer.{Answer}
use Rattle.slot_table.specs.declared.step.Step.{Step}
use Rattle.slot_table.specs.declared.step.Step.TheVariants.{CellExchange, LockTry, PairLoad}
use Rattle.setup_access.specs.Waits as checks
use Rattle.setup_access.specs.Waits.{is_failed}
use Rattle.program_order.specs.Standing.{Setting}
use Rattle.program_order.specs.WrittenOrder.{SpellsAll, WrittenOrder}

-- the cell that a step exchanges, the lock that it tries, or the index whose pair it loads, is this
abbrev pub exchanges_in : ℕ → Step → Bool
exchanges_in cell (CellExchange at seen new) = at == cell
exchanges_in cell step = false

abbrev pub tries_lock : ℕ → Step → Bool
tries_lock lock (LockTry at task) = at == lock
tries_lock lock step = false

abbrev pub loads_pair : ℕ → Step → Bool
loads_pair index (PairLoad at) = at == index
loads_pair index step = false

-- answers of an exchange, and of a try of a lock, that was refused
abbrev pub is_refused : Answer → Bool
is_refused = checks.is_word

abbrev pub is_no : Answer → Bool
is_no = checks.is_no

-- This step tries again what the one before it tried. Only a failed try is tried again (`is_failed`): of an exchange
-- and of a lock that is asked here, and a load of a pair is never followed by the same load unless the awaited half was
-- empty, as a law says.
abbrev pub is_tried_again : Step → Answer → Step → Bool
is_tried_again (CellExchange cell seen new) answer next = is_failed None (CellExchange cell seen new) answer && exchanges_in cell next
is_tried_again (LockTry lock task) answer next = is_failed None (LockTry lock task) answer && tries_lock lock next
is_tried_again (PairLoad index) answer next = loads_pair index next
is_tried_again step answer next = false

-- how many tries the step comes after that were tried again, in the wait that it goes on with; the records before it
-- stand with the latest first
abbrev pub failed_tries : Step → List Record → ℕ
failed_tries step [] = 0
failed_tries step (before ∷ earlier) =
    if is_tried_again before.step before.answer step then suc (failed_tries before.step earlier) else 0

-- The step, after these records with the latest first, is a try of a wait: a load of a pair, a try of a
-- lock, or an exchange that is tried again after it was refused.
abbrev pub IsTry : Step → List Record → Type 0
IsTry (PairLoad index) earlier = Unit {0}
IsTry (LockTry lock task) earlier = Unit {0}
IsTry (CellExchange cell seen new) earlier = 0 < failed_tries (CellExchange cell seen new) earlier
IsTry step earlier = ⊥

-- it is a try of a wait that has had so many failed tries as are allowed
abbrev pub IsTooMuch : ℕ → Step → List Record → Type 0
IsTooMuch turns step earlier = IsTry step earlier × (turns ≤ failed_tries step earlier)

-- none of the task's steps, the latest first, is a try too much
abbrev pub WithinTurns : ℕ → List Record → Type 0
WithinTurns turns [] = Unit {0}
WithinTurns turns (latest ∷ earlier) =
    WithinTurns turns earlier × ¬ IsTooMuch turns latest.step earlier

-- whatever completes the records so far goes on with this step
abbrev pub OnlyStep : Setting → ℕ → Block → List Record → Step → Type 0
OnlyStep s registers body records step =
    (later : List Record) → SpellsAll s registers body (records ++ later) → GoesOn s.text.task step later

-- after these records in the written order, the oldest first, the task is stuck: the only step that they
-- go on with is a try too much
pub record IsStuck (s : Setting) (registers : ℕ) (body : Block) (records : List Record) : Type 0 where
  pub step : Step
  pub written : WrittenOrder s registers body records
  pub only : OnlyStep s registers body records step
  pub tried : IsTooMuch s.rules.turns step (reverse records)

-- the same, told by what the records end with: the only step that they go on with is a try of a wait, after as
-- many failed tries as are allowed
pub record IsStuckByFailedTries (s : Setting) (registers : ℕ) (body : Block) (records : List Record) : Type 0 where
  pub step : Step
  pub written : WrittenOrder s registers body records
  pub only : OnlyStep s registers body records step
  pub tries : IsTry step (reverse records)
  pub failed_wait : s.rules.turns ≤ checks.failed_tries records
