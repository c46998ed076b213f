-- What a task keeps of what it did.
use Rattle.std.specs.Prelude.{◌≡◌, ℕ, false, length, count_by, slice_get, slice_index, unwrap_or}
use Rattle.litmus_semantics.specs.Task.{begins_at, has_lock}
use Rattle.task_plan.specs.Counts.{up_to_last}
use Rattle.task_plan.specs.declared.progress.Progress.{Progress}
use Rattle.program_order.specs.Standing.{Standing}

-- Where the task stands so, in a program of so many variables, these are its registers, how many
-- accesses began at each site, which locks it has, and how many of its calls had nothing to end. What
-- has no place in it is 0, or no lock of the task.
pub record Keeps (variables : ℕ) (before : Standing) (progress : Progress) : Type 0 where
  pub registers : progress.registers.items ≡ before.progress.registers
  pub sites : length progress.begun.items ≡ 256
  pub begun : (site : ℕ) → slice_index progress.begun.items site
      ≡ up_to_last (count_by (begins_at site) before.progress.did)
  pub locks : length progress.held.items ≡ variables
  pub held : (variable : ℕ) → unwrap_or (slice_get progress.held.items variable) false
      ≡ has_lock variable before.progress.did
  pub unbalanced : progress.unbalanced ≡ up_to_last before.unbalanced
