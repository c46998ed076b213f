-- The records read so far lead to the checker.
use Rattle.std.proofs.Common.{◌≡◌, ℕ, List, [], take}
use Rattle.setup_access.specs.Checker.{Doing}
use Rattle.setup_access.specs.Leads.{Leads}
use Rattle.setup_access.specs.Setting.{Setting}
use Rattle.setup_access.specs.declared.begun.Begun.{Begun}
use Rattle.oracle_steps.proofs.oracle_checks.reading.read_on.Given as goal

abbrev pub invariant-loop-latest : goal.invariant-loop-latest
invariant-loop-latest l = (s : Setting) (scopes : List Begun) (doing : Doing) (asked : ℕ) → s.sites ≡ l.sites → s.task ≡ l.task
    → Leads s scopes doing asked [] l.fn.checker → Leads s scopes doing asked (take l.latest-index l.records) l.checker
