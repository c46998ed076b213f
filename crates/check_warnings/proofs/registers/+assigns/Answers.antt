-- A statement with blocks assigns what these assign, and a loop its counter.
use Rattle.std.proofs.Common.{◌∙◌, ne_eqb, refl, sym}
use Rattle.std.specs.Prelude.{◌==◌}
use Rattle.litmus_syntax.specs.Views.{block_of}
use Rattle.check_warnings.proofs.StatementLemmas.{of_for, of_if, of_if_else, of_passed, or_else, or_then}
use Rattle.check_warnings.specs.Registers.{assigns, assigns_in}
use Rattle.check_warnings.proofs.registers.+assigns.Goals as goal

pub assigns-returns-in-If : goal.assigns-returns-in-If
assigns-returns-in-If t c =
    c.assigns_in.ensures ∙ of_passed (assigns_in c.args.register) c.in-If.body.items _ c.as_slice.ensures.value
    ∙ sym (of_if (assigns c.args.register) c.args.statement.now c.in-If.condition c.in-If.body c.in-If.is)

pub assigns-returns-then-assigns_in : goal.assigns-returns-then-assigns_in
assigns-returns-then-assigns_in t c =
    let body = c.assigns_in-in-IfElse.ensures ∙ of_passed (assigns_in c.args.register) c.in-IfElse.body.items _ c.as_slice-in-IfElse.ensures.value in
    or_then _ _ (assigns_in c.args.register (block_of c.in-IfElse.otherwise.items)) body c.if-assigns_in.true
    ∙ sym (of_if_else (assigns c.args.register) c.args.statement.now c.in-IfElse.condition c.in-IfElse.body c.in-IfElse.otherwise c.in-IfElse.is)

pub assigns-returns-else-assigns_in : goal.assigns-returns-else-assigns_in
assigns-returns-else-assigns_in t c =
    let body = c.assigns_in-in-IfElse.ensures ∙ of_passed (assigns_in c.args.register) c.in-IfElse.body.items _ c.as_slice-in-IfElse.ensures.value in
    let otherwise = c.assigns_in-else-assigns_in.ensures
    ∙ of_passed (assigns_in c.args.register) c.in-IfElse.otherwise.items _ c.as_slice-else-assigns_in.ensures.value in
    or_else _ _ _ _ body c.if-assigns_in.false otherwise
    ∙ sym (of_if_else (assigns c.args.register) c.args.statement.now c.in-IfElse.condition c.in-IfElse.body c.in-IfElse.otherwise c.in-IfElse.is)

pub assigns-returns-else-counter-register : goal.assigns-returns-else-counter-register
assigns-returns-else-counter-register t c =
    let body = c.assigns_in-else-counter-register.ensures
    ∙ of_passed (assigns_in c.args.register) c.in-For.body.items _ c.as_slice-else-counter-register.ensures.value in
    or_else (c.in-For.counter == c.args.register) _ _ _ refl (ne_eqb _ _ c.if-counter-register.false) body
    ∙ sym (of_for (assigns c.args.register) c.args.statement.now c.in-For.counter c.in-For.turns c.in-For.body c.in-For.is)
