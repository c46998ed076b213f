-- By the laws on answers and on the words that steps name.
use Rattle.std.proofs.Common.{length}
use Rattle.executions.specs.execution.Run.{task_of, task_setting}
use Rattle.litmus_step.proofs.StepLemmas.{AnAnswerLeadsOn, StepsNameWords, goes_on_with, leads_more, names_word}
use Rattle.litmus_step.proofs.laws.law_steps_lead_on.Goals as goal

pub returns-clause-names : goal.returns-clause-names
returns-clause-names c =
    let leads_on : AnAnswerLeadsOn = c.law_an_answer_leads_on.ensures.next in
    let names : StepsNameWords = λ run task records some written. c.law_steps_name_words_of_the_run.ensures (task_setting run task)
    (length (task_of run task).registers) (task_of run task).body records some written in
    names_word leads_on names

pub returns-clause-goes : goal.returns-clause-goes
returns-clause-goes c =
    let leads_on : AnAnswerLeadsOn = c.law_an_answer_leads_on.ensures.next in
    let names : StepsNameWords = λ run task records some written. c.law_steps_name_words_of_the_run.ensures (task_setting run task)
    (length (task_of run task).registers) (task_of run task).body records some written in
    goes_on_with leads_on names

pub returns-clause-leads : goal.returns-clause-leads
returns-clause-leads c =
    let leads_on : AnAnswerLeadsOn = c.law_an_answer_leads_on.ensures.next in
    let names : StepsNameWords = λ run task records some written. c.law_steps_name_words_of_the_run.ensures (task_setting run task)
    (length (task_of run task).registers) (task_of run task).body records some written in
    leads_more leads_on names
