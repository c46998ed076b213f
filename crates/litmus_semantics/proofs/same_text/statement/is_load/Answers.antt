-- Another statement is no load.
use Rattle.std.proofs.Common.{◌≡◌, refl}
use Rattle.litmus_syntax.specs.Tree as tree
use Rattle.litmus_syntax.specs.Views.{load_of, statement_of}
use Rattle.litmus_syntax.specs.declared.statement.Statement.{Statement}
use Rattle.litmus_syntax.specs.declared.statement.Statement.TheVariants as statements
use Rattle.litmus_syntax.specs.declared.expression.Load.{Load}
use Rattle.litmus_semantics.proofs.same_text.statement.is_load.Goals as goal

other_is_no_load : (s : Statement) (load : Load) → ((own : Load) → s ≡ statements.Load own → ⊥) → statement_of s ≡ tree.load_only (load_of load) → ⊥
other_is_no_load (statements.Load l) load other e = other l refl
other_is_no_load (statements.Assign d a) load other e = cc
other_is_no_load (statements.Call c) load other e = cc
other_is_no_load (statements.If' c n b) load other e = cc
other_is_no_load (statements.IfElse' c n b m o) load other e = cc
other_is_no_load (statements.For' r t n b) load other e = cc

pub returns-in_default : goal.returns-in_default
returns-in_default c = (λ yes. search, λ is. absurd (other_is_no_load c.args.statement.now c.args.load.now c.in_default.not-Load is))
