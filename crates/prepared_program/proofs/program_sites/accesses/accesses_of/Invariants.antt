-- The accesses of earlier tasks are counted, and there is room for those of the tasks to come.
use Rattle.std.proofs.Common.{◌≡◌, ◌≤◌, length, map, take, vec_capacity, vec_len}
use Rattle.litmus_syntax.specs.Views.{task_of}
use Rattle.prepared_program.specs.program_sites.Accesses.{begun_by}
use Rattle.prepared_program.proofs.program_sites.accesses.accesses_of.Given as goal

abbrev pub invariant-loop-task : goal.invariant-loop-task
invariant-loop-task l = record {
  room : length l.tasks ≤ vec_capacity l.accesses;
  made : vec_len l.accesses ≡ l.task-index;
  counted : l.accesses.items ≡ map begun_by (take l.task-index (map task_of l.tasks));
}
