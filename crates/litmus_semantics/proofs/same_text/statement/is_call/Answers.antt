-- Another statement is no call.
use Rattle.std.proofs.Common.{◌≡◌, refl}
use Rattle.litmus_syntax.specs.Tree as tree
use Rattle.litmus_syntax.specs.Views.{statement_of}
use Rattle.litmus_syntax.specs.declared.statement.Statement.{Statement}
use Rattle.litmus_syntax.specs.declared.statement.Statement.TheVariants as statements
use Rattle.litmus_syntax.specs.declared.statement.Call.{Call}
use Rattle.litmus_semantics.proofs.same_text.statement.is_call.Goals as goal

other_is_no_call : (s : Statement) (call : Call) → ((own : Call) → s ≡ statements.Call own → ⊥) → statement_of s ≡ tree.call call → ⊥
other_is_no_call (statements.Load l) call other e = cc
other_is_no_call (statements.Assign d a) call other e = cc
other_is_no_call (statements.Call c) call other e = other c refl
other_is_no_call (statements.If' c n b) call other e = cc
other_is_no_call (statements.IfElse' c n b m o) call other e = cc
other_is_no_call (statements.For' r t n b) call other e = cc

pub returns-in_default : goal.returns-in_default
returns-in_default c = (λ yes. search, λ is. absurd (other_is_no_call c.args.statement.now c.args.call.now c.in_default.not-Call is))
