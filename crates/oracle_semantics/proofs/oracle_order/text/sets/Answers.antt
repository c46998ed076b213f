-- The register gets the value of the expression.
use Rattle.std.proofs.Common.{◌≡◌, ◌∙◌, ℕ, List, ap, subst, sym}
use Rattle.litmus_semantics.specs.Expressions.{pure_value}
use Rattle.litmus_semantics.specs.Task as meaning
use Rattle.litmus_semantics.specs.Task.{Progress}
use Rattle.litmus_syntax.specs.Views.{pure_of}
use Rattle.oracle_semantics.proofs.oracle_order.OrderLemmas.{after_assigning, assigned, assigned_progress}
use Rattle.oracle_semantics.specs.oracle_order.Walks.{stands}
use Rattle.slot_table.specs.declared.records.Record.{Record}
use Rattle.program_order.specs.WrittenOrder.{StepsInDataRace}
use Rattle.oracle_semantics.proofs.oracle_order.text.sets.Goals as goal

pub returns : goal.returns
returns c = λ s site standing same.
    let r = c.args.register in
    let e = pure_of c.args.pure.now in
    let records = c.args.before.left.items in
    let value : pure_value standing.progress.registers e ≡ c.pure_value-value.result
    = ap (λ (p : Progress). pure_value p.registers e) same
    ∙ (ap (λ (xs : List ℕ). pure_value xs e) (sym c.as_slice.ensures.value) ∙ sym c.pure_value-value.ensures) in
    let came : (after_assigning standing records r (pure_value standing.progress.registers e)).progress ≡ stands c.assigning.result
    = assigned_progress standing records r (pure_value standing.progress.registers e)
    ∙ (ap (λ (n : ℕ). meaning.assigning standing.progress r n) value
    ∙ (ap (λ (p : Progress). meaning.assigning p r c.pure_value-value.result) same ∙ sym c.assigning.ensures.comes)) in
    rw c.assigning.ensures.left
    (after_assigning standing records r (pure_value standing.progress.registers e), assigned s site r e standing records, came)
