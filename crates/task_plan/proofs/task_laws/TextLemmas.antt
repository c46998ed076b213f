-- A text that keeps its limits fits where its task begins, and is spelled by some records.
use Rattle.std.proofs.Common.{◌≡◌, ◌≤◌, ◌+◌, ◌*◌, ◌++◌, [], ℕ, List, arith, length, subst}
use Rattle.std.proofs.lemmas.List.{append-nil}
use Rattle.litmus_semantics.proofs.LimitLemmas.{few_sites}
use Rattle.litmus_syntax.specs.Limits.{TaskKeepsLimits}
use Rattle.litmus_syntax.specs.Tree.{Block, Task}
use Rattle.slot_table.specs.declared.records.Record.{Record}
use Rattle.task_plan.proofs.task_laws.SpelledBlocks.{block_spelled}
use Rattle.task_plan.proofs.task_laws.LimitLemmas.{block_few}
use Rattle.task_plan.specs.task_laws.Begins.{block_begins}
use Rattle.task_plan.specs.task_laws.StandingButWay.{begun_at, core_of, standing}
use Rattle.task_plan.specs.task_laws.Fits.{ArePlaced, Fits}
use Rattle.program_order.specs.Standing.{Setting, Standing}
use Rattle.program_order.specs.WrittenOrder.{SpellsAll, StepsOfBlock, WrittenOrder, at_first}

pub fitting_spelled : (s : Setting) (registers site : ℕ) (body : Block) (before : Standing) (rest : List Record)
    → ArePlaced s → Fits s registers site body before
    → (records : List Record) × (end : Standing) × StepsOfBlock s site body before (records ++ rest) end rest
    × (end.scopes ≡ before.scopes)
    × ((at : ℕ) → begun_at at (core_of end) ≤ begun_at at (core_of before) + block_begins site body at)
fitting_spelled s registers site body before rest placed fits =
    let spelled = block_spelled s placed registers body (core_of before) site fits.typed fits.sites fits.room fits.own in
    let one = spelled.spells before.way before.outcomes rest in
    (spelled.records, standing spelled.after one.0 one.1, one.2, spelled.scopes, spelled.counts)

pub fits_first : (s : Setting) (task : Task) → ArePlaced s → TaskKeepsLimits s.text.variables task
    → Fits s (length task.registers) 0 task.body (at_first (length task.registers))
fits_first s task placed keeps = record {
  typed = keeps.typed;
  sites = let few = few_sites task.body keeps.body in omega (arith, few);
  room = λ at.
      let few : 1 * block_begins 0 task.body at ≤ 256 = block_few 1 task.body 0 at (omega arith) keeps.body.turns in
      omega (arith, few);
  own = tt;
}

pub text_spelled : (s : Setting) (task : Task) → ArePlaced s → TaskKeepsLimits s.text.variables task
    → (records : List Record) × SpellsAll s (length task.registers) task.body records
text_spelled s task placed keeps =
    let all = fitting_spelled s (length task.registers) 0 task.body (at_first (length task.registers)) [] placed (fits_first s task placed keeps) in (
      all.0,
      record {
        end = all.1;
        steps = subst (λ (r : List Record). StepsOfBlock s 0 task.body (at_first (length task.registers)) r all.1 []) (append-nil all.0) all.2;
      },
    )

pub text_begins : (s : Setting) (task : Task) → ArePlaced s → TaskKeepsLimits s.text.variables task
    → WrittenOrder s (length task.registers) task.body []
text_begins s task placed keeps =
    let all = text_spelled s task placed keeps in record { more = all.0; whole = all.1 }
