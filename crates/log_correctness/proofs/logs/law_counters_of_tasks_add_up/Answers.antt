-- Task by task, and only tasks of the program make records.
use Rattle.std.proofs.Common.{◌≡◌, ◌+◌, ℕ, arith, subst, suc}
use Rattle.log_correctness.proofs.Counting.{all_counted, more_counted, none_counted}
use Rattle.log_correctness.specs.Totals.{CountsTasks}
use Rattle.log_correctness.proofs.logs.law_counters_of_tasks_add_up.Goals as goal

pub returns-clause-none : goal.returns-clause-none
returns-clause-none c = none_counted

pub returns-clause-more : goal.returns-clause-more
returns-clause-more c = λ run records list task noted some one both counts notes own sum.
    subst (λ (n : ℕ). CountsTasks list n both) (let same : suc task ≡ task + 1 = omega arith in same)
    (more_counted run records list task noted notes some one both counts own sum)

pub returns-clause-all : goal.returns-clause-all
returns-clause-all c = all_counted
