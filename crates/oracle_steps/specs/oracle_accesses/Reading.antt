-- What records are of the text of a task.
use Rattle.std.specs.Prelude.{◌≡◌, ◌++◌, ℕ, List}
use Rattle.oracle_steps.specs.declared.oracle_accesses.reading.Reading.{Reading}
use Rattle.oracle_steps.specs.declared.oracle_accesses.reading.Reading.TheVariants.{Begun, Other, Stuck, Whole}
use Rattle.litmus_syntax.specs.Tree.{Block}
use Rattle.slot_table.specs.Answer.{Answers}
use Rattle.slot_table.specs.declared.records.Record.{Record}
use Rattle.slot_table.specs.declared.step.Step.{Step}
use Rattle.program_order.specs.Standing.{Setting}
use Rattle.program_order.specs.Waits.{IsStuck}
use Rattle.program_order.specs.WrittenOrder.{SpellsAll, WrittenOrder}

-- the record is this step of the task, with an answer of its kind
abbrev pub IsMade : Record → ℕ → Step → Type 0
IsMade made task step = (made.task ≡ task) × (made.step ≡ step) × Answers step made.answer

-- the records spell the whole text; or they are in the written order and don't; or they aren't in it; or the task is
-- stuck by a beginning of them
abbrev pub IsReading : Setting → ℕ → Block → List Record → Reading → Type 0
IsReading s registers body records Whole = SpellsAll s registers body records
IsReading s registers body records Begun =
    WrittenOrder s registers body records × ¬ SpellsAll s registers body records
IsReading s registers body records Other = ¬ WrittenOrder s registers body records
IsReading s registers body records Stuck =
    (made rest : List Record) × (records ≡ made ++ rest) × IsStuck s registers body made
