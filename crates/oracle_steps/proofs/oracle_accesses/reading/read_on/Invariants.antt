-- The records read so far lead to the machine, and are in the written order.
use Rattle.std.proofs.Common.{◌≡◌, [], length, take}
use Rattle.litmus_syntax.specs.Limits.{TaskKeepsLimits}
use Rattle.litmus_syntax.specs.Tree.{Task}
use Rattle.task_plan.specs.task_laws.Fits.{ArePlaced}
use Rattle.task_run.specs.Leads.{Leads}
use Rattle.program_order.specs.Standing.{Setting}
use Rattle.program_order.specs.WrittenOrder.{WrittenOrder}
use Rattle.oracle_steps.proofs.oracle_accesses.reading.read_on.Given as goal

abbrev pub invariant-loop-latest : goal.invariant-loop-latest
invariant-loop-latest l = (s : Setting) (text : Task) → s.text.task ≡ l.task → ArePlaced s → TaskKeepsLimits s.text.variables text
    → Leads s (length text.registers) text.body [] l.fn.run
    → Leads s (length text.registers) text.body (take l.latest-index l.records) l.run
    × WrittenOrder s (length text.registers) text.body (take l.latest-index l.records)
