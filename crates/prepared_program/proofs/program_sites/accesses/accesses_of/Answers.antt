-- One task more.
use Rattle.std.proofs.Common.{◌≡◌, ◌<◌, ◌∙◌, ◌+◌, ◌++◌, ◌∷◌, ℕ, [], List, Some, ap, arith, get_or, length, map, refl, slice_get, sym, take}
use Rattle.std.proofs.lemmas.List.{length-map, map-append, take_all, take_more}
use Rattle.std.proofs.lemmas.Option.{get_or_from_slice_get, slice_get-map, slice_get_read}
use Rattle.std.specs.Option.{option_map}
use Rattle.litmus_syntax.specs.Limits.{TaskKeepsLimits}
use Rattle.litmus_syntax.specs.Tree as tree
use Rattle.litmus_syntax.specs.Views.{task_of}
use Rattle.litmus_syntax.specs.declared.program.Task.{Task}
use Rattle.prepared_program.proofs.program_sites.ProgramLemmas.{task_at}
use Rattle.prepared_program.specs.program_sites.Accesses.{begun_by}
use Rattle.prepared_program.proofs.program_sites.accesses.accesses_of.Goals as goal

-- the task of the turn, as the tree has it
stands : (tasks : List Task) (number : ℕ) (task : Task) → number < length tasks → task ≡ get_or tasks number task
    → slice_get (map task_of tasks) number ≡ Some (task_of task)
stands tasks number task within is =
    slice_get-map task_of tasks number ∙ ap (option_map task_of) (slice_get_read tasks (length tasks) number task refl within is)

-- the tasks so far and that of the turn
one_more : (tasks : List tree.Task) (number : ℕ) (task : tree.Task) → number < length tasks → slice_get tasks number ≡ Some task
    → map begun_by (take (number + 1) tasks) ≡ map begun_by (take number tasks) ++ begun_by task ∷ []
one_more tasks number task within is =
    ap (map begun_by) (take_more tasks number task within)
    ∙ map-append begun_by (take number tasks) (get_or tasks number task ∷ [])
    ∙ ap (λ (t : tree.Task). map begun_by (take number tasks) ++ begun_by t ∷ []) (get_or_from_slice_get tasks number task task is)

pub in_task-requires : goal.in_task-requires
in_task-requires c =
    let tasks : List Task = c.as_slice-tasks.result.now in
    let there = stands tasks c.loop-task.task-index c.task-item.result c.loop-task-test.true c.task-item.is in
    (task_at (TaskKeepsLimits c.args.program.now.variables) (map task_of tasks) c.loop-task.task-index (task_of c.task-item.result) there
    (rw c.as_slice-tasks.ensures c.requires.each_task)).body

pub loop-task-preserved : goal.loop-task-preserved
loop-task-preserved c =
    let tasks : List Task = c.as_slice-tasks.result.now in
    let there = stands tasks c.loop-task.task-index c.task-item.result c.loop-task-test.true c.task-item.is in
    let many = length-map tasks task_of in
    let more = one_more (map task_of tasks) c.loop-task.task-index (task_of c.task-item.result) (omega (arith, many, c.loop-task-test.true)) there in
    record {
      room = omega (arith, c.push_reserved.ensures.capacity, c.loop-task.invariant.room);
      made = omega (arith, c.push_reserved.ensures.len, c.loop-task.invariant.made);
      counted = c.push_reserved.ensures.items
          ∙ ap (λ (items : List ℕ). items ++ c.in_task.result ∷ []) c.loop-task.invariant.counted
          ∙ ap (λ (n : ℕ). map begun_by (take c.loop-task.task-index (map task_of tasks)) ++ n ∷ []) c.in_task.ensures
          ∙ sym more;
    }

pub returns : goal.returns
returns c =
    let tasks : List Task = c.as_slice-tasks.result.now in
    let many = length-map tasks task_of in
    c.loop-task.invariant.counted
    ∙ ap (map begun_by) (take_all c.loop-task.task-index (map task_of tasks) (omega (arith, many, c.loop-task-test.false)))
    ∙ ap (λ (ts : List Task). map begun_by (map task_of ts)) c.as_slice-tasks.ensures
