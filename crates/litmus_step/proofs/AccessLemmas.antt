-- How many accesses the tasks of a run can begin, by the list that a program which is made ready has of them.
use Rattle.std.proofs.Common.{◌≡◌, ◌≤◌, ◌∙◌, ◌*◌, [], ℕ, All, List, Some, ap, arith, length, map, slice_get, slice_index_or, subst, sum, sym}
use Rattle.std.proofs.Math.ListN.{get_or-map}
use Rattle.std.proofs.lemmas.List.{length-map}
use Rattle.std.proofs.lemmas.List.Elements.{All-from_get_or, All-get_or, All-map}
use Rattle.std.proofs.lemmas.List.Sums.{sum-map}
use Rattle.litmus_syntax.specs.Limits.{KeepsLimits, TaskKeepsLimits}
use Rattle.litmus_syntax.specs.Tree.{Program, Task}
use Rattle.prepared_program.specs.program_sites.Accesses.{begun_by}
use Rattle.executions.specs.execution.Run.{Run, idle}
use Rattle.litmus_step.specs.Kept.{accesses_kept, reports_kept, watches_kept}
use Rattle.litmus_step.specs.Runs.{tasks_of}
use Rattle.task_log.specs.Keeps.{Keeps}
use Rattle.task_log.specs.declared.log.TaskLog.{TaskLog}

-- the list has the number of each task
abbrev pub AreBegun : Program → List ℕ → Type 0
AreBegun program accesses = accesses ≡ map begun_by program.tasks

pub begun_at : (run : Run) (accesses : List ℕ) → AreBegun run.program accesses → (task : ℕ)
    → slice_index_or accesses task 0 ≡ accesses_kept run task
begun_at run accesses are task =
    ap (λ (xs : List ℕ). slice_index_or xs task 0) are ∙ get_or-map begun_by run.program.tasks task idle

pub all_begun : (run : Run) (accesses : List ℕ) → AreBegun run.program accesses → length accesses ≡ tasks_of run
all_begun run accesses are = ap length are ∙ length-map run.program.tasks begun_by

pub few_begun : (program : Program) (accesses : List ℕ) → KeepsLimits program → AreBegun program accesses → All (λ one. one ≤ 1024) accesses
few_begun program accesses keeps are =
    subst (All (λ (one : ℕ). one ≤ 1024)) (sym are)
    (All-map (λ (one : ℕ). one ≤ 1024) begun_by program.tasks
    (All-from_get_or (λ (task : Task). begun_by task ≤ 1024) program.tasks idle
    (λ task there. (All-get_or (TaskKeepsLimits program.variables) program.tasks task idle there keeps.each_task).body.repeats)))

pub few_tasks : (program : Program) (accesses : List ℕ) → KeepsLimits program → AreBegun program accesses → length accesses ≤ 16
few_tasks program accesses keeps are =
    let many : length accesses ≡ length program.tasks = ap length are ∙ length-map program.tasks begun_by in
    omega (arith, many, keeps.tasks)

pub reports_begun : (run : Run) (accesses : List ℕ) → AreBegun run.program accesses → 9 * sum accesses ≡ reports_kept run
reports_begun run accesses are = ap (λ (n : ℕ). 9 * n) (ap sum are ∙ sum-map begun_by run.program.tasks)

-- there is room for what all tasks report
pub room_for : (run : Run) (accesses : List ℕ) → AreBegun run.program accesses → (all room : ℕ) → all ≡ sum accesses → 9 * all ≤ room
    → reports_kept run ≤ room
room_for run accesses are all room is space =
    subst (λ (n : ℕ). n ≤ room) (ap (λ (n : ℕ). 9 * n) is ∙ reports_begun run accesses are) space

-- and in each log for what its task keeps
pub each_kept : (run : Run) (accesses : List ℕ) → AreBegun run.program accesses → (logs : List TaskLog)
    → ((task : ℕ) (log : TaskLog) → slice_get logs task ≡ Some log
    → Keeps (slice_index_or accesses task 0) (9 * slice_index_or accesses task 0) [] log)
    → (task : ℕ) (log : TaskLog) → slice_get logs task ≡ Some log → Keeps (accesses_kept run task) (watches_kept run task) [] log
each_kept run accesses are logs each task log is =
    subst (λ (n : ℕ). Keeps n (9 * n) [] log) (begun_at run accesses are task) (each task log is)
