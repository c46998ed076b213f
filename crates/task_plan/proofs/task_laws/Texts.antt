-- What is open as a block is open as a whole text.
use Rattle.std.proofs.Common.{◌++◌, ℕ, List, [], ◌∷◌, append_assoc, length, refl, subst, sym}
use Rattle.task_plan.proofs.task_laws.Ends.{AtEnd, end_open}
use Rattle.task_plan.specs.task_laws.SameStep.{IsAlike}
use Rattle.litmus_syntax.specs.Limits.{TaskKeepsLimits}
use Rattle.litmus_syntax.specs.Tree.{Block, Task}
use Rattle.slot_table.specs.declared.records.Record.{Record}
use Rattle.task_plan.proofs.task_laws.TextLemmas.{fits_first}
use Rattle.task_plan.specs.task_laws.Begins.{block_begins}
use Rattle.task_plan.specs.task_laws.StandingButWay.{core_of}
use Rattle.task_plan.specs.task_laws.Fits.{ArePlaced, Fits}
use Rattle.task_plan.proofs.task_laws.Blocks.{block_open}
use Rattle.task_plan.proofs.task_laws.Places.{StepsAreOpen}
use Rattle.program_order.specs.Standing.{Setting}
use Rattle.program_order.specs.WrittenOrder.{SpellsAll, StepsOfBlock, WrittenOrder, at_first}

-- where the block of a text is open, another answer of a step goes on to an end of the text
module _ (s : Setting) (registers : ℕ) (body : Block) (most : ℕ → ℕ)
    (opens : StepsAreOpen (λ before records after rest. StepsOfBlock s 0 body before records after rest) (core_of (at_first registers)) most) where
  open_answer : (records : List Record) (first other : Record) (later : List Record) → IsAlike first other
      → SpellsAll s registers body (records ++ first ∷ later) → WrittenOrder s registers body (records ++ other ∷ [])
  open_answer records first other later alike whole =
      let all = opens (λ value after. AtEnd) (λ value after. AtEnd) (λ value after is. end_open) in
      let own = all.turns records first other later ([], [], tt, whole.end, [], whole.steps, refl) alike in
      let one = own.1 [] [] in
      record {
        more = own.0;
        whole = record {
          end = one.1;
          steps = subst (λ (r : List Record). StepsOfBlock s 0 body (at_first registers) r one.1 []) (sym (append_assoc records (other ∷ []) own.0))
              (subst (λ (r : List Record). StepsOfBlock s 0 body (at_first registers) (records ++ other ∷ own.0) one.1 r) one.4 one.3);
        };
      }

pub another_answer : (s : Setting) (task : Task) (records : List Record) (first other : Record) (later : List Record)
    → ArePlaced s → TaskKeepsLimits s.text.variables task → IsAlike first other
    → SpellsAll s (length task.registers) task.body (records ++ first ∷ later)
    → WrittenOrder s (length task.registers) task.body (records ++ other ∷ [])
another_answer s task records first other later placed keeps alike whole =
    let fits : Fits s (length task.registers) 0 task.body (at_first (length task.registers)) = fits_first s task placed keeps in
    open_answer s (length task.registers) task.body (block_begins 0 task.body)
    (block_open s placed (length task.registers) task.body (core_of (at_first (length task.registers))) 0 fits.typed fits.sites fits.room fits.own)
    records first other later alike whole
