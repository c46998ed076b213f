-- How many steps the tasks of a run make together.
use Rattle.std.proofs.Common.{◌≡◌, ◌<◌, ◌≤◌, ◌+◌, ◌*◌, ◌^◌, ◌++◌, ◌∷◌, [], ℕ, zero, suc, List, ap, arith, eq-eqb, inl, inr, length, refl, reverse, subst, sym}
use Rattle.std.proofs.Math.ListN.{get_or-eq_default}
use Rattle.std.proofs.Math.Nat.{mul-le-mul}
use Rattle.std.proofs.lemmas.Bool.Decides.{eqb_tells, leb_tells}
use Rattle.std.proofs.lemmas.List.{length-append, length-reverse, reverse-reverse}
use Rattle.std.proofs.lemmas.List.Elements.{All-get_or}
use Rattle.litmus_syntax.specs.Limits.{KeepsLimits, TaskKeepsLimits}
use Rattle.litmus_syntax.specs.Tree.{Task}
use Rattle.executions.specs.execution.Run.{Run, idle, task_of, task_setting}
use Rattle.executions.specs.execution.Execution.{Execution}
use Rattle.slot_table.specs.Records.{records_of}
use Rattle.slot_table.specs.declared.records.Record.{Record}
use Rattle.executions.proofs.step_bounds.Tasks.{few_of_task}
use Rattle.program_order.specs.Waits.{WithinTurns}
use Rattle.program_order.specs.WrittenOrder.{StepsOfBlock, at_first}

-- how many records the tasks below a number have
abbrev all_below : ℕ → List Record → ℕ
all_below zero records = 0
all_below (suc task) records = all_below task records + length (records_of task records)

own_latest : (task : ℕ) (latest : Record) (earlier : List Record) → latest.task ≡ task
    → records_of task (latest ∷ earlier) ≡ latest ∷ records_of task earlier
own_latest task latest earlier is = rw (eq-eqb latest.task task is) refl

-- one record more counts for its task
as_many : (task : ℕ) (latest : Record) (earlier : List Record) → length (records_of task earlier) ≤ length
    (records_of task (latest ∷ earlier))
as_many task latest earlier = elim (eqb_tells latest.task task) [
  | inl own ↦ let long : length (records_of task (latest ∷ earlier)) ≡ length (latest ∷ records_of task earlier) =
      rw own.0 refl in omega (arith, long)
  | inr other ↦ let long : length (records_of task (latest ∷ earlier)) ≡ length (records_of task earlier) =
      rw other.0 refl in omega (arith, long)
]

still_below : (tasks : ℕ) (latest : Record) (earlier : List Record) → all_below tasks earlier ≤ all_below tasks (latest ∷ earlier)
still_below zero latest earlier = omega arith
still_below (suc task) latest earlier =
    let rest = still_below task latest earlier in let own = as_many task latest earlier in omega (arith, rest, own)

one_below : (tasks : ℕ) (latest : Record) (earlier : List Record) → latest.task < tasks
    → all_below tasks earlier + 1 ≤ all_below tasks (latest ∷ earlier)
one_below zero latest earlier below = absurd (omega (arith, below))
one_below (suc task) latest earlier below = elim (eqb_tells latest.task task) [
  | inl own ↦
      let rest = still_below task latest earlier in
      let long : length (records_of task (latest ∷ earlier)) ≡ length (latest ∷ records_of task earlier) = rw own.0 refl in
      omega (arith, rest, long)
  | inr other ↦
      let apart : latest.task ≡ task → ⊥ = other.1 in
      let less : latest.task < task = smaller latest.task task below apart in
      let rest = one_below task latest earlier less in
      let own = as_many task latest earlier in
      omega (arith, rest, own)
]
  where
    smaller : (n m : ℕ) → n < suc m → (n ≡ m → ⊥) → n < m
    smaller n m below apart = omega (arith, below, apart)

-- the tasks from a number on have no records
abbrev NoneBeyond : ℕ → List Record → Type 0
NoneBeyond tasks records = (task : ℕ) → tasks ≤ task → length (records_of task records) ≡ 0

all_of_tasks : (tasks : ℕ) (records : List Record) → NoneBeyond tasks records → length records ≤ all_below tasks records
all_of_tasks tasks [] none = omega arith
all_of_tasks tasks (latest ∷ earlier) none =
    let rest = all_of_tasks tasks earlier (λ task beyond.
    let fewer = as_many task latest earlier in let nothing = none task beyond in omega (arith, fewer, nothing)) in
    let one = one_below tasks latest earlier here in
    omega (arith, rest, one)
  where
    here : latest.task < tasks
    here = elim (leb_tells tasks latest.task) [
      | inl beyond ↦
          let nothing = none latest.task beyond.1 in
          let long : length (records_of latest.task (latest ∷ earlier)) ≡ length (latest ∷ records_of latest.task earlier) =
          ap (λ (r : List Record). length r) (own_latest latest.task latest earlier refl) in
          absurd (omega (arith, nothing, long))
      | inr below ↦ below.1
    ]

few_below : (most tasks : ℕ) (records : List Record) → ((task : ℕ) → task < tasks → length (records_of task records) ≤ most)
    → all_below tasks records ≤ tasks * most
few_below most zero records few = omega arith
few_below most (suc task) records few =
    let rest = few_below most task records (λ other below. few other (omega (arith, below))) in
    let own = few task (omega arith) in
    omega (arith, rest, own)

module _ (run : Run) (records : List Record) (keeps : KeepsLimits run.program) (list : Execution run records) where
  -- a task that the program hasn't makes no step
  none_beyond : NoneBeyond (length run.program.tasks) records
  none_beyond task beyond =
      let none : task_of run task ≡ idle = get_or-eq_default run.program.tasks idle beyond in
      let own : List Record = reverse (records_of task records) in
      let written = list.tasks task in
      let steps : StepsOfBlock (task_setting run task) 0 idle.body (at_first (length idle.registers))
      (own ++ written.more) written.whole.end [] =
      subst (λ (t : Task). StepsOfBlock (task_setting run task) 0 t.body (at_first (length t.registers))
      (own ++ written.more) written.whole.end []) none
      written.whole.steps in
      let empty : length {A = Record} [] ≡ length (own ++ written.more) = ap (λ (r : List Record). length r) steps.1 in
      let parts = length-append own written.more in
      let same = length-reverse (records_of task records) in
      omega (arith, empty, parts, same)

  few_of_each : (task : ℕ) → task < length run.program.tasks → length (records_of task records) ≤ 2 ^ 25 * (run.rules.turns + 1)
  few_of_each task there =
      let own = All-get_or (TaskKeepsLimits run.program.variables) run.program.tasks task idle there keeps.each_task in
      let few = few_of_task (task_setting run task) (length (task_of run task).registers) (task_of run task).body
      (reverse (records_of task records)) own.body
      (list.tasks task) (subst (WithinTurns run.rules.turns) (sym (reverse-reverse (records_of task records))) (list.within task)) in
      let same = length-reverse (records_of task records) in
      omega (arith, few, same)

  pub few_of_list : length records ≤ length run.program.tasks * (2 ^ 25 * (run.rules.turns + 1))
  few_of_list =
      let all = all_of_tasks (length run.program.tasks) records none_beyond in
      let few = few_below (2 ^ 25 * (run.rules.turns + 1)) (length run.program.tasks) records few_of_each in
      omega (arith, all, few)

  pub few_of_all : run.rules.turns < 2 ^ 64 → length records < 2 ^ 96
  few_of_all turns =
      let each : 2 ^ 25 * (run.rules.turns + 1) ≤ 2 ^ 89 = omega (arith, turns) in
      let most : length run.program.tasks * (2 ^ 25 * (run.rules.turns + 1)) ≤ 16 * 2 ^ 89 = mul-le-mul keeps.tasks each in
      let few = few_of_list in
      omega (arith, most, few)
