-- A checker that lends its context ends with what became of that, and keeps all else.
use Rattle.std.specs.Borrow.{Lends, MutBor, Fml}
use Rattle.task_context.specs.Context.{Context}
use Rattle.task_context.specs.contracts.context.Context as context
use Rattle.setup_access.specs.declared.checker.Checker.{Checker}
use Rattle.setup_access.specs.contracts.checker.Checker.{the_row}

-- a checker with another context
abbrev pub with_context : Checker → Context → Checker
with_context checker w = record checker { context = w }

-- the checker ends with the last value of the context that it lent
abbrev pub LendsContext : MutBor Checker → MutBor Context → Fml
LendsContext s r = Lends the_row context.the_row s r (with_context s.now)
