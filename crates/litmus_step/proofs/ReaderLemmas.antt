-- What is read of a world, by the list.
use Rattle.std.proofs.Common.{◌≡◌, ◌≤◌, ◌+◌, ◌^◌, ◌++◌, ℕ, suc, List, arith, inl, inr, reverse, subst, sym}
use Rattle.std.proofs.lemmas.List.{reverse-reverse}
use Rattle.std.proofs.lemmas.Option.{slice_get_cases}
use Rattle.litmus_step.proofs.FirstLemmas.{past}
use Rattle.litmus_syntax.specs.Limits.{BodyKeepsLimits, KeepsLimits, TaskKeepsLimits, block_rises}
use Rattle.litmus_syntax.specs.Tree.{Task}
use Rattle.executions.specs.execution.Run.{Run, idle, task_of}
use Rattle.executions.specs.execution.Execution.{Execution}
use Rattle.log_correctness.specs.Lists.{ByTask}
use Rattle.log_correctness.specs.Noted.{AreNoted, Notes}
use Rattle.log_correctness.specs.Totals.{unbalanced_below}
use Rattle.slot_table.specs.Records.{records_of}
use Rattle.slot_table.specs.declared.records.Record.{Record}
use Rattle.task_log.specs.declared.noted.Noted.{Noted}
use Rattle.task_plan.specs.Counts.{up_to_last}
use Rattle.program_order.specs.WrittenOrder.{stands_after}

-- those of one task more follow on those of the tasks before it
pub by_one_more : {X : Type 0} (Of : ℕ → List X → Type 0) (tasks : ℕ) (some one all : List X) → ByTask Of tasks some → Of tasks one
    → all ≡ some ++ one → ByTask Of (tasks + 1) all
by_one_more Of tasks some one all before own joined =
    let next : suc tasks ≡ tasks + 1 = omega arith in
    subst (λ n. ByTask Of n all) next (some, one, joined, before, own)

-- a task's body keeps the limits, also that of one that the program hasn't
pub body_keeps : (run : Run) (task : ℕ) → KeepsLimits run.program → BodyKeepsLimits (task_of run task).body
body_keeps run task limits =
    elim (slice_get_cases run.program.tasks task).1 [
      | inl there ↦
          let keeps : TaskKeepsLimits run.program.variables (task_of run task) = limits.each_task task idle there.1 in keeps.body
      | inr beyond ↦ subst (λ (t : Task). BodyKeepsLimits t.body) (sym (past run task beyond.0))
          (record { statements = omega arith; turns = tt; repeats = omega arith; scopes = tt })
    ]

-- so do its counts
pub few_rises : (run : Run) (task : ℕ) → KeepsLimits run.program → block_rises (task_of run task).body ≤ 2 ^ 32
few_rises run task limits =
    elim (slice_get_cases run.program.tasks task).1 [
      | inl there ↦
          let keeps : TaskKeepsLimits run.program.variables (task_of run task) = limits.each_task task idle there.1 in keeps.rises
      | inr beyond ↦ subst (λ (t : Task). block_rises t.body ≤ 2 ^ 32) (sym (past run task beyond.0)) (omega arith)
    ]

-- what is noted of a task's own records is noted of them as they stand twice turned round
pub noted_along : (run : Run) (records : List Record) (list : Execution run records) (task : ℕ) (noted : List Noted)
    → Notes list task noted → AreNoted (list.tasks task) (reverse (reverse (records_of task records))) noted
noted_along run records list task noted notes =
    subst (λ (own : List Record). AreNoted (list.tasks task) own noted) (sym (reverse-reverse (records_of task records))) notes

-- one task's calls that had nothing to end are added
pub unbalanced_more : (run : Run) (records : List Record) (list : Execution run records) (task so_far one both : ℕ)
    → so_far ≡ unbalanced_below list task → one ≡ up_to_last (stands_after (list.tasks task)).unbalanced
    → both ≡ up_to_last (so_far + one) → both ≡ unbalanced_below list (task + 1)
unbalanced_more run records list task so_far one both is_so_far is_one is_both =
    let next : suc task ≡ task + 1 = omega arith in
    subst (λ n. both ≡ unbalanced_below list n) next
    (alike (unbalanced_below list task) (stands_after (list.tasks task)).unbalanced so_far one both is_so_far is_one is_both)
  where
    alike : (below own some other all : ℕ) → some ≡ below → other ≡ up_to_last own → all ≡ up_to_last (some + other)
        → all ≡ up_to_last (below + own)
    alike below own some other all is_some is_other is_all = omega (arith, is_some, is_other, is_all)
