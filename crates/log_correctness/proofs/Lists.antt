-- What is reported of a run is no more than the outcomes of its tasks.
use Rattle.std.proofs.Common.{◌≡◌, ◌∙◌, ◌<◌, ◌≤◌, ◌+◌, ◌*◌, ◌++◌, ◌∷◌, [], inl, inr, ℕ, zero, suc, Bool}
use Rattle.std.proofs.Common.{true, false, List, None, Option, Some, ap, arith, cond, count_by, length, refl, reverse, sum_by, take}
use Rattle.std.specs.List.{cons_option, filter_map}
use Rattle.std.proofs.lemmas.Bool.Decides.{eqb_tells}
use Rattle.std.proofs.lemmas.List.{length-append, length-map, length-reverse}
use Rattle.std.proofs.lemmas.List.Elements.{All-get_or}
use Rattle.std.proofs.lemmas.List.Sums.{sum_by-take-le, sum_by_more}
use Rattle.std.proofs.Math.Nat.{suc-mul}
use Rattle.access_types.specs.declared.report.Report.{Report}
use Rattle.litmus_syntax.specs.Limits.{BodyKeepsLimits, KeepsLimits, TaskKeepsLimits, block_repeats}
use Rattle.litmus_syntax.specs.Tree.{Task}
use Rattle.executions.specs.execution.Reports as lists
use Rattle.executions.specs.execution.Reports.{reports_of}
use Rattle.executions.specs.execution.Run.{Run, idle, task_of}
use Rattle.executions.specs.execution.Execution.{Execution}
use Rattle.executions.specs.execution.Observed.{OutcomeAt, armed_by, came_next, made_by, outcome_at, outcomes_of}
use Rattle.executions.proofs.execution.OwnLasts.{own_latest}
use Rattle.log_correctness.specs.Totals.{outcomes_below}
use Rattle.log_correctness.proofs.Sums.{all_came, came_of, counted, no_outcome_below, one_task_came}
use Rattle.log_correctness.proofs.Fallen.{few_fell, fell_by}
use Rattle.setup_access.specs.declared.outcome.Outcome.{Outcome}
use Rattle.slot_table.specs.Records.{records_of}
use Rattle.slot_table.specs.declared.records.Record.{Record}
use Rattle.program_order.specs.TaskObserved.{fell_next}

-- some outcome
abbrev some_came : Option Outcome → Bool
some_came None = false
some_came (Some outcome) = true

none_came : some_came None ≡ false
none_came = refl

all_counted : (came : List OutcomeAt) → count_by (λ (one : OutcomeAt). some_came (Some one.outcome)) came ≡ length came
all_counted [] = refl
all_counted (one ∷ others) =
    let rest = all_counted others in
    let all = counted (λ (c : OutcomeAt). true) one others in omega (arith, rest, all)

reports_fewer : (came : List OutcomeAt) → length (filter_map (λ (c : OutcomeAt). lists.reported c.access c.outcome) came) ≤ length came
reports_fewer [] = omega arith
reports_fewer (one ∷ others) =
    let rest = reports_fewer others in
    let most = one_more (lists.reported one.access one.outcome) (filter_map (λ (c : OutcomeAt). lists.reported c.access c.outcome) others) in
    omega (arith, rest, most)
  where
    one_more : (o : Option Report) (l : List Report) → length (cons_option o l) ≤ suc (length l)
    one_more None l = omega arith
    one_more (Some report) l = omega arith

pub keeps_body : (run : Run) → KeepsLimits run.program → (task : ℕ) → task < length run.program.tasks
    → BodyKeepsLimits (task_of run task).body
keeps_body run keeps task there =
    (All-get_or (TaskKeepsLimits run.program.variables) run.program.tasks task idle there keeps.each_task).body

module _ (run : Run) (all : List Record) (list : Execution run all) where
  abbrev came_by : ℕ → List Record → ℕ
  came_by task records = came_of some_came none_came run all list task records

  came_then : (latest : Record) (earlier : List Record)
      → count_by (λ (one : OutcomeAt). some_came (Some one.outcome)) (came_next list latest earlier)
      ≡ length (fell_next (list.tasks latest.task) (made_by latest.task earlier))
  came_then latest earlier =
      all_counted (came_next list latest earlier)
      ∙ length-map (fell_next (list.tasks latest.task) (made_by latest.task earlier)) (outcome_at (length earlier) (armed_by latest.task (latest ∷ earlier)))

  came_fell : (task : ℕ) (records : List Record) → came_by task records ≡ fell_by (list.tasks task) (made_by task records)
  came_fell task [] = refl
  came_fell task (latest ∷ earlier) = elim (eqb_tells latest.task task) [
    | inl mine ↦
        let rest = came_fell task earlier in
        let now = came_then latest earlier in
        let its : length (fell_next (list.tasks latest.task) (made_by latest.task earlier)) ≡ length (fell_next (list.tasks task) (made_by task earlier)) =
        ap (λ (t : ℕ). length (fell_next (list.tasks t) (made_by t earlier))) mine.1 in
        let all_so : came_by task (latest ∷ earlier) ≡ count_by (λ (one : OutcomeAt). some_came (Some one.outcome)) (came_next list latest earlier) + came_by task earlier =
        ap (λ (b : Bool). cond b (count_by (λ (one : OutcomeAt). some_came (Some one.outcome)) (came_next list latest earlier)) 0 + came_by task earlier) mine.0 in
        let own : fell_by (list.tasks task) (made_by task (latest ∷ earlier)) ≡ fell_by (list.tasks task) (suc (made_by task earlier)) =
        ap (λ (r : List Record). fell_by (list.tasks task) (length r)) (own_latest task latest earlier mine.1) in
        omega (arith, rest, now, its, all_so, own)
    | inr others ↦
        let rest = came_fell task earlier in
        let all_so : came_by task (latest ∷ earlier) ≡ 0 + came_by task earlier =
        ap (λ (b : Bool). cond b (count_by (λ (one : OutcomeAt). some_came (Some one.outcome)) (came_next list latest earlier)) 0 + came_by task earlier) others.0 in
        let own : fell_by (list.tasks task) (made_by task (latest ∷ earlier)) ≡ fell_by (list.tasks task) (made_by task earlier) =
        ap (λ (r : List Record). fell_by (list.tasks task) (length r)) (let same : records_of task (latest ∷ earlier) ≡ records_of task earlier = rw others.0 refl in same) in
        omega (arith, rest, all_so, own)
  ]

  few_came : (task : ℕ) → came_by task all ≤ length (list.tasks task).whole.end.outcomes
  few_came task =
      let fell = came_fell task all in
      let size : length (reverse (records_of task all) ++ (list.tasks task).more) ≡ length (reverse (records_of task all)) + length (list.tasks task).more =
      length-append (reverse (records_of task all)) (list.tasks task).more in
      let turned : length (reverse (records_of task all)) ≡ made_by task all = length-reverse (records_of task all) in
      let few = few_fell (list.tasks task) (made_by task all) (omega (arith, size, turned)) in omega (arith, fell, few)

  pub few_below : (most : ℕ) → ((task : ℕ) → task < length run.program.tasks → length (list.tasks task).whole.end.outcomes ≤ most)
      → (tasks : ℕ)
      → tasks ≤ length run.program.tasks
      → count_by (λ (one : OutcomeAt). some_came (Some one.outcome)) (outcomes_below list tasks all) ≤ tasks * most
  few_below most each zero within = let none = no_outcome_below some_came none_came run all list all in omega (arith, none)
  few_below most each (suc task) within =
      let rest = few_below most each task (omega (arith, within)) in
      let one = one_task_came some_came none_came run all list task all in
      let own = few_came task in
      let few = each task (omega (arith, within)) in
      let product : suc task * most ≡ task * most + most = suc-mul task most in
      omega (arith, rest, one, own, few, product)

  -- as many reports as have come of the tasks, at most
  few_reports_of : (most : ℕ)
      → count_by (λ (one : OutcomeAt). some_came (Some one.outcome)) (outcomes_below list (length run.program.tasks) all) ≤ most
      → length (reports_of list) ≤ most
  few_reports_of most few =
      let same : count_by (λ (one : OutcomeAt). some_came (Some one.outcome)) (outcomes_below list (length run.program.tasks) all)
      ≡ count_by (λ (one : OutcomeAt). some_came (Some one.outcome)) (outcomes_of list) =
      ap (λ (l : List OutcomeAt). count_by (λ (one : OutcomeAt). some_came (Some one.outcome)) l) (all_came run all list) in
      let size = all_counted (outcomes_of list) in
      let fewer = reports_fewer (outcomes_of list) in omega (arith, few, same, size, fewer)

  pub few_reports : (most : ℕ) → ((task : ℕ) → task < length run.program.tasks → length (list.tasks task).whole.end.outcomes ≤ most)
      → length (reports_of list) ≤ length run.program.tasks * most
  few_reports most each = few_reports_of (length run.program.tasks * most) (few_below most each (length run.program.tasks) (omega arith))

  -- nine for each access of each text
  few_below_by_text : ((task : ℕ) → task < length run.program.tasks
      → length (list.tasks task).whole.end.outcomes ≤ 9 * block_repeats 1 (task_of run task).body)
      → (tasks : ℕ)
      → tasks ≤ length run.program.tasks
      → count_by (λ (one : OutcomeAt). some_came (Some one.outcome)) (outcomes_below list tasks all)
      ≤ 9 * sum_by (λ (task : Task). block_repeats 1 task.body) (take tasks run.program.tasks)
  few_below_by_text each zero within = let none = no_outcome_below some_came none_came run all list all in omega (arith, none)
  few_below_by_text each (suc task) within =
      let rest = few_below_by_text each task (omega (arith, within)) in
      let one = one_task_came some_came none_came run all list task all in
      let own = few_came task in
      let few = each task (omega (arith, within)) in
      let next : suc task ≡ task + 1 = omega arith in
      let more : sum_by (λ (t : Task). block_repeats 1 t.body) (take (suc task) run.program.tasks)
      ≡ sum_by (λ (t : Task). block_repeats 1 t.body) (take task run.program.tasks) + block_repeats 1 (task_of run task).body =
      ap (λ (n : ℕ). sum_by (λ (t : Task). block_repeats 1 t.body) (take n run.program.tasks)) next
      ∙ sum_by_more (λ (t : Task). block_repeats 1 t.body) run.program.tasks task idle (omega (arith, within)) in
      omega (arith, rest, one, own, few, more)

  pub few_reports_by_text : ((task : ℕ) → task < length run.program.tasks
      → length (list.tasks task).whole.end.outcomes ≤ 9 * block_repeats 1 (task_of run task).body)
      → length (reports_of list) ≤ 9 * sum_by (λ (task : Task). block_repeats 1 task.body) run.program.tasks
  few_reports_by_text each =
      let few = few_below_by_text each (length run.program.tasks) (omega arith) in
      let most = sum_by-take-le (λ (t : Task). block_repeats 1 t.body) run.program.tasks (length run.program.tasks) in
      few_reports_of (9 * sum_by (λ (t : Task). block_repeats 1 t.body) run.program.tasks) (omega (arith, few, most))
