-- Each task so far is led to by no record.
use Rattle.std.proofs.Common.{◌≡◌, ◌≤◌, [], ℕ, Some, slice_get, vec_capacity, vec_len}
use Rattle.litmus_step.proofs.first.first_tasks.Given as goal
use Rattle.litmus_step.specs.Leads.{LeadsTask}
use Rattle.prepared_program.specs.program_sites.Prepared.{IsPrepared, sites_in}
use Rattle.litmus_step.specs.Runs.{run_of}
use Rattle.prepared_program.specs.declared.program_sites.settings.Settings.{Settings}
use Rattle.task_run.specs.Points.{HasMade}
use Rattle.task_run.specs.declared.run.TaskRun.{TaskRun}

abbrev pub invariant-loop-number : goal.invariant-loop-number
invariant-loop-number l = record {
  room : l.count ≤ vec_capacity l.machines;
  made : vec_len l.machines ≡ l.number;
  led : (settings : Settings) → IsPrepared l.program settings l.prepared
      → (task : ℕ) (machine : TaskRun) → slice_get l.machines.items task ≡ Some machine
      → LeadsTask (run_of l.program settings (sites_in l.prepared)) task [] machine;
  points : (task : ℕ) (machine : TaskRun) → slice_get l.machines.items task ≡ Some machine → HasMade [] machine;
}
