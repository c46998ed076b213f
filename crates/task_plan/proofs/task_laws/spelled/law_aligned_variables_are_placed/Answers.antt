-- Each variable with bytes has the block that it lies in for a cell.
use Rattle.task_plan.proofs.task_laws.PlacedLemmas.{aligned_placed}
use Rattle.task_plan.proofs.task_laws.spelled.law_aligned_variables_are_placed.Goals as goal

pub returns : goal.returns
returns c = aligned_placed
