-- Another assignment gives no register a value.
use Rattle.std.proofs.Common.{◌≡◌, ◌∙◌, ℕ, ap, refl, sym}
use Rattle.litmus_syntax.specs.Tree as tree
use Rattle.litmus_syntax.specs.Views.{assignment_of, expression_of}
use Rattle.litmus_syntax.specs.declared.expression.Expression.{Expression}
use Rattle.litmus_syntax.specs.declared.statement.Assignment.{Assignment}
use Rattle.litmus_syntax.specs.declared.statement.Assignment.TheVariants as assignments
use Rattle.litmus_semantics.proofs.same_text.assignment.is_same_assignment.Goals as goal

to_no_register : (one : Assignment) (register : ℕ) (value : tree.Expression)
    → ((second : ℕ) (given : Expression) → one ≡ assignments.Register second given → ⊥)
    → assignment_of one ≡ tree.to_register register value → ⊥
to_no_register (assignments.Register second given) register value other e = other second given refl
to_no_register (assignments.Write form variable given) register value other e = cc
to_no_register (assignments.Add variable given) register value other e = cc
to_no_register (assignments.Increment variable) register value other e = cc
to_no_register (assignments.AtomicAdd given variable) register value other e = cc
to_no_register (assignments.AtomicIncrement variable) register value other e = cc
to_no_register (assignments.AtomicDecrement variable) register value other e = cc

pub returns-in_default : goal.returns-in_default
returns-in_default c = (
  λ yes. search,
  λ same. absurd (to_no_register c.args.other.now c.in_default.field-0-0 (expression_of c.in_default.field-1-0)
      c.in_default.not-Register-1 (sym same ∙ ap assignment_of c.in_default.is-0)),
)
