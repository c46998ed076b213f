-- What a task made goes on with any answer of its next step.
use Rattle.std.proofs.Common.{◌++◌, ℕ, List, [], ◌∷◌, subst, sym}
use Rattle.litmus_syntax.specs.Tree.{Block}
use Rattle.access_run.specs.memory_operation.Leads.{GoesOn}
use Rattle.setup_access.specs.Parts.{made}
use Rattle.slot_table.specs.Answer.{Answers}
use Rattle.slot_table.specs.declared.records.Record.{Record}
use Rattle.slot_table.specs.declared.step.Answer.{Answer}
use Rattle.slot_table.specs.declared.step.Step.{Step}
use Rattle.task_plan.specs.task_laws.SameStep.{IsAlike}
use Rattle.program_order.specs.Standing.{Setting}
use Rattle.program_order.specs.WrittenOrder.{SpellsAll, WrittenOrder}

module _ (s : Setting) (registers : ℕ) (body : Block) (records : List Record) (step : Step) (answer : Answer) (fits : Answers step answer)
    (another : (first other : Record) (later : List Record) → IsAlike first other → SpellsAll s registers body (records ++ first ∷ later)
    → WrittenOrder s registers body (records ++ other ∷ [])) where
  answered : (more : List Record) → SpellsAll s registers body (records ++ more) → GoesOn s.text.task step more
      → WrittenOrder s registers body (records ++ made s.text.task step answer ∷ [])
  answered [] whole goes = absurd goes
  answered (first ∷ later) whole goes =
      another first (made s.text.task step answer) later
      (record { task = sym goes.0; step = sym goes.1; answers = subst (λ (st : Step). Answers st answer) (sym goes.1) fits }) whole

  pub next_answer : WrittenOrder s registers body records
      → ((later : List Record) → SpellsAll s registers body (records ++ later) → GoesOn s.text.task step later)
      → WrittenOrder s registers body (records ++ made s.text.task step answer ∷ [])
  next_answer written only = answered written.more written.whole (only written.more written.whole)
