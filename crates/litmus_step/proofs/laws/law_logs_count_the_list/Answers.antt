-- By the law on the counters of tasks.
use Rattle.litmus_step.proofs.laws.law_logs_count_the_list.Goals as goal
use Rattle.litmus_step.specs.Kept.{accesses_kept, watches_kept}

pub returns-clause-none : goal.returns-clause-none
returns-clause-none c = c.law_counters_of_tasks_add_up.ensures.none

pub returns-clause-more : goal.returns-clause-more
returns-clause-more c = λ run records list task log some one both kept so_far count add.
    c.law_counters_of_tasks_add_up.ensures.more run records list task kept.noted some one both so_far kept.notes
    (count (accesses_kept run task) (watches_kept run task) kept.noted kept.keeps) add

pub returns-clause-all : goal.returns-clause-all
returns-clause-all c = c.law_counters_of_tasks_add_up.ensures.all
