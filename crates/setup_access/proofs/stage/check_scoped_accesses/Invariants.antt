-- The scoped assertions that were passed over are silenced, so those that are left are all that are checked.
use Rattle.std.proofs.Common.{◌↔◌, ℕ, List, [], drop}
use Rattle.slot_table.specs.declared.records.Record.{Record}
use Rattle.setup_access.specs.Check.{Passes, Rechecks}
use Rattle.setup_access.specs.Setting.{Setting}
use Rattle.setup_access.proofs.stage.check_scoped_accesses.Given as goal

abbrev pub invariant-loop-number : goal.invariant-loop-number
invariant-loop-number l = (s : Setting) (asked : ℕ) (records : List Record) (passes : Passes) →
    Rechecks s (drop l.fn.from l.scopes) asked records passes [] ↔ Rechecks s (drop l.number l.scopes) asked records passes []
