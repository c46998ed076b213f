-- Another expression with a load is no load alone.
use Rattle.std.proofs.Common.{◌≡◌, ◌∙◌, ap, refl, sym}
use Rattle.litmus_syntax.specs.Tree as tree
use Rattle.litmus_syntax.specs.Views.{load_of, loading_of}
use Rattle.litmus_syntax.specs.declared.expression.Load.{Load}
use Rattle.litmus_syntax.specs.declared.expression.Loading.{Loading}
use Rattle.litmus_syntax.specs.declared.expression.Loading.TheVariants as loadings
use Rattle.litmus_semantics.proofs.same_text.expression.+is_same_loading.Goals as goal

is_no_load : (one : Loading) (load : tree.Load) → ((own : Load) → one ≡ loadings.Load own → ⊥) → loading_of one ≡ tree.load load → ⊥
is_no_load (loadings.Load own) load other e = other own refl
is_no_load (loadings.Unary' op p a) load other e = cc
is_no_load (loadings.Left' op p a b) load other e = cc
is_no_load (loadings.Right' op a p b) load other e = cc

pub returns-in_default : goal.returns-in_default
returns-in_default t c = (
  λ yes. search,
  λ same. absurd (is_no_load c.args.other.now (load_of c.in_default.field-0-0) c.in_default.not-Load-1
      (sym same ∙ ap loading_of c.in_default.is-0)),
)
