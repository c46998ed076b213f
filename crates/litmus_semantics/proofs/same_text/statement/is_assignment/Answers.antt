-- Another statement is no assignment.
use Rattle.std.proofs.Common.{◌≡◌, Bool, refl}
use Rattle.litmus_syntax.specs.Tree as tree
use Rattle.litmus_syntax.specs.Views.{assignment_of, statement_of}
use Rattle.litmus_syntax.specs.declared.statement.Statement.{Statement}
use Rattle.litmus_syntax.specs.declared.statement.Statement.TheVariants as statements
use Rattle.litmus_syntax.specs.declared.statement.Assignment.{Assignment}
use Rattle.litmus_semantics.proofs.same_text.statement.is_assignment.Goals as goal

other_is_no_assignment : (s : Statement) (data_race : Bool) (assignment : Assignment)
    → ((inside : Bool) (own : Assignment) → s ≡ statements.Assign inside own → ⊥)
    → statement_of s ≡ tree.assign data_race (assignment_of assignment) → ⊥
other_is_no_assignment (statements.Load l) data_race assignment other e = cc
other_is_no_assignment (statements.Assign d a) data_race assignment other e = other d a refl
other_is_no_assignment (statements.Call c) data_race assignment other e = cc
other_is_no_assignment (statements.If' c n b) data_race assignment other e = cc
other_is_no_assignment (statements.IfElse' c n b m o) data_race assignment other e = cc
other_is_no_assignment (statements.For' r t n b) data_race assignment other e = cc

pub returns-in_default : goal.returns-in_default
returns-in_default c = (λ yes. search, λ is. absurd (other_is_no_assignment c.args.statement.now c.args.data_race c.args.assignment.now c.in_default.not-Assign is))
