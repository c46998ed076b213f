-- Each run so far has its words and its tasks, and there is room for the rest.
use Rattle.std.proofs.Common.{◌≡◌, ◌≤◌, [], map, vec_capacity, vec_len}
use Rattle.prepared_program.specs.program_sites.Prepared.{IsPrepared, sites_in}
use Rattle.prepared_program.specs.declared.program_sites.settings.Settings.{Settings}
use Rattle.executions.specs.execution.Execution.{Execution}
use Rattle.litmus_step.specs.Runs.{CanBeMade, run_of}
use Rattle.runner.proofs.first.first_runs.Given as goal
use Rattle.runner.specs.Starts.{AreStartsOfEach}
use Rattle.runner.specs.Terms.{AreGivenEach}

abbrev pub invariant-loop : goal.invariant-loop
invariant-loop l = record {
  made : vec_len l.tables ≡ l.counter;
  made_rows : vec_len l.rows ≡ l.counter;
  room : l.runs ≤ vec_capacity l.tables;
  room_rows : l.runs ≤ vec_capacity l.rows;
  given : (settings : Settings) → IsPrepared l.program settings l.prepared → CanBeMade (run_of l.program settings (sites_in l.prepared))
      → Execution (run_of l.program settings (sites_in l.prepared)) [] → AreGivenEach l.program settings l.prepared l.tables.items;
  starts : AreStartsOfEach l.tables.items (map (λ row. row.items) l.rows.items);
}
