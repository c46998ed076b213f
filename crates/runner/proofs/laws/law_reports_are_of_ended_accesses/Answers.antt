-- By the laws on what records tell, on stamps, and on the two sides of reports.
use Rattle.accepted_traces.proofs.Reports.{reports_fit}
use Rattle.litmus_semantics.specs.RunOfProgram.{setting_of}
use Rattle.executions.specs.execution.Run.{idle, task_of}
use Rattle.runner.proofs.laws.law_reports_are_of_ended_accesses.Goals as goal

pub returns : goal.returns
returns c = λ run records list keeps ended accesses are.
    let fit = c.law_accesses_that_begin_fit.ensures run records list in
    reports_fit run records list (c.law_records_tell_their_events.ensures.each run records list)
    (c.law_stamps_tell_the_order.ensures.answers run records list keeps) (c.law_stamps_tell_the_order.ensures.few run records list keeps)
    (c.law_records_tell_their_events.ensures.first run records list) accesses are (λ a begins. (fit a begins).below)
    (c.law_accesses_of_ended_tasks_have_ended.ensures run records list ended)
    (λ task below. c.law_tickets_have_room.ensures.tickets (setting_of run.program run.places task) (task_of run task).body
    (keeps.each_task task idle below).body)
    (λ a begins. (fit a begins).mask) (c.law_watched_accesses_are_unmarked_and_heard.ensures.setters run records list)
    (c.law_reports_name_two_sides.ensures run records list) (c.law_unknown_origins_changed.ensures.watched run records list)
    (c.law_reports_are_true.ensures.outcomes run records list)
