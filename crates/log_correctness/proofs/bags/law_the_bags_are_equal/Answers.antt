-- Each arming has its verdict, and each taking its one answer.
use Rattle.std.proofs.Common.{All}
use Rattle.std.proofs.lemmas.List.Sorted.{All-permutation}
use Rattle.log_correctness.proofs.OneBags.{all_of, origins, races, takings}
use Rattle.executions.specs.execution.Run.{first_cells, locks_of}
use Rattle.soundness.specs.Takings.{HasOneAnswer}
use Rattle.slot_table.specs.Meetings.{Meeting, finders_told, setters_heard}
use Rattle.log_correctness.proofs.bags.law_the_bags_are_equal.Goals as goal

pub returns-clause-takings : goal.returns-clause-takings
returns-clause-takings c = λ run records list arms takes ended are taken.
    let rules = c.law_executions_keep_the_discipline.ensures.keeps run records list in
    let over = c.law_executions_keep_the_discipline.ensures.finished run records ended in
    let once : All (λ (met : Meeting). HasOneAnswer list met.index met.number) (finders_told records) =
    All-permutation (λ (met : Meeting). HasOneAnswer list met.index met.number) (setters_heard records) (finders_told records)
    (c.law_roles_of_executions.ensures.bags run records list ended)
    (all_of (λ (met : Meeting). HasOneAnswer list met.index met.number) (setters_heard records)
    (λ met there. c.law_each_taking_has_one_answer.ensures.heard run records list met there)) in
    takings run records list rules over (c.law_verdicts_are_on_watches.ensures run records list) (c.law_answers_are_to_takings.ensures run records list)
    (c.law_heard_is_told.ensures.once run.rules.slots (locks_of run) (first_cells run) records rules) once arms are takes taken

pub returns-clause-races : goal.returns-clause-races
returns-clause-races c = λ run records list arms ended are.
    let rules = c.law_executions_keep_the_discipline.ensures.keeps run records list in
    races run records list rules (c.law_executions_keep_the_discipline.ensures.finished run records ended)
    (c.law_verdicts_are_on_watches.ensures run records list) (c.law_answers_are_to_takings.ensures run records list)
    (c.law_heard_is_told.ensures.once run.rules.slots (locks_of run) (first_cells run) records rules) arms are

pub returns-clause-origins : goal.returns-clause-origins
returns-clause-origins c = λ run records list arms ended are.
    let rules = c.law_executions_keep_the_discipline.ensures.keeps run records list in
    origins run records list rules (c.law_executions_keep_the_discipline.ensures.finished run records ended)
    (c.law_verdicts_are_on_watches.ensures run records list) (c.law_answers_are_to_takings.ensures run records list)
    (c.law_heard_is_told.ensures.once run.rules.slots (locks_of run) (first_cells run) records rules) arms are
