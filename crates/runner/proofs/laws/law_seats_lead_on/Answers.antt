-- By the laws on answers, on the words that steps name, and on what is noted.
use Rattle.std.proofs.Common.{length}
use Rattle.litmus_step.proofs.StepLemmas.{AnAnswerLeadsOn, StepsNameWords}
use Rattle.executions.specs.execution.Run.{task_of, task_setting}
use Rattle.runner.proofs.LedLemmas.{is_allowed, leads_more, names_word}
use Rattle.runner.proofs.laws.law_seats_lead_on.Goals as goal

pub returns-clause-names : goal.returns-clause-names
returns-clause-names c = λ run task own machine log reports room step can below led next.
    let leads_on : AnAnswerLeadsOn = c.law_an_answer_leads_on.ensures.next in
    let names : StepsNameWords = λ r t records some written. c.law_steps_name_words_of_the_run.ensures (task_setting r t)
    (length (task_of r t).registers) (task_of r t).body records some written in
    names_word leads_on names c.law_the_written_order_keeps_the_discipline.ensures.keeps c.law_one_more_is_noted.ensures.own
    run task own machine log reports room step can below led next

pub returns-clause-allows : goal.returns-clause-allows
returns-clause-allows c = λ run task own machine log reports room step can below led next.
    let leads_on : AnAnswerLeadsOn = c.law_an_answer_leads_on.ensures.next in
    let names : StepsNameWords = λ r t records some written. c.law_steps_name_words_of_the_run.ensures (task_setting r t)
    (length (task_of r t).registers) (task_of r t).body records some written in
    is_allowed leads_on names c.law_the_written_order_keeps_the_discipline.ensures.keeps c.law_one_more_is_noted.ensures.own
    run task own machine log reports room step can below led next

pub returns-clause-leads : goal.returns-clause-leads
returns-clause-leads c = λ run task own old after log more_log reports more_reports room step answer begins fell report can below led next
    answers on begun fallen in_log added.
    let leads_on : AnAnswerLeadsOn = c.law_an_answer_leads_on.ensures.next in
    let names : StepsNameWords = λ r t records some written. c.law_steps_name_words_of_the_run.ensures (task_setting r t)
    (length (task_of r t).registers) (task_of r t).body records some written in
    leads_more leads_on names c.law_the_written_order_keeps_the_discipline.ensures.keeps c.law_one_more_is_noted.ensures.own
    run task own old log reports room step can below led next answer after begins fell more_log report more_reports
    answers on begun fallen in_log added
