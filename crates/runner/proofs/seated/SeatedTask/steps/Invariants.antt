-- So far the records of the seat lead to the machine.
use Rattle.std.proofs.Common.{◌≡◌, ◌≤◌, vec_capacity}
use Rattle.litmus_step.specs.Kept.{watches_kept}
use Rattle.runner.proofs.seated.SeatedTask.steps.Given as goal
use Rattle.runner.specs.Led.{IsLed}
use Rattle.runner.specs.Terms.{run_by}

abbrev pub invariant-loop : goal.invariant-loop
invariant-loop g l = record {
  table : l.board.table ≡ l.terms.table.now;
  own : l.board.task ≡ l.number;
  led : IsLed (run_by l.terms) l.number l.board.records l.run l.log l.reports.items (vec_capacity l.reports);
  room : watches_kept (run_by l.terms) l.number ≤ vec_capacity l.reports;
}
