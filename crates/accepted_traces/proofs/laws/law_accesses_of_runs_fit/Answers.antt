-- by their spans
use Rattle.std.proofs.Common.{arith, length}
use Rattle.litmus_semantics.specs.RunOfProgram.{setting_of}
use Rattle.executions.specs.execution.Run.{idle, task_of}
use Rattle.accepted_traces.proofs.Spans.{all_fitting, all_other}
use Rattle.accepted_traces.proofs.laws.law_accesses_of_runs_fit.Goals as goal

pub returns-clause-each : goal.returns-clause-each
returns-clause-each c = λ run records list keeps accesses are masks.
    all_fitting run records list (c.law_records_tell_their_events.ensures.each run records list)
    (c.law_stamps_tell_the_order.ensures.answers run records list keeps) (c.law_stamps_tell_the_order.ensures.few run records list keeps)
    (λ task below. c.law_tickets_have_room.ensures.tickets (setting_of run.program run.places task) (task_of run task).body (keeps.each_task task idle below).body)
    accesses are masks

pub returns-clause-others : goal.returns-clause-others
returns-clause-others c = λ run records list keeps accesses are.
    all_other run records list (c.law_records_tell_their_events.ensures.each run records list)
    (c.law_stamps_tell_the_order.ensures.answers run records list keeps) (c.law_stamps_tell_the_order.ensures.few run records list keeps)
    (λ task below. c.law_tickets_have_room.ensures.tickets (setting_of run.program run.places task) (task_of run task).body (keeps.each_task task idle below).body)
    (length run.program.tasks) accesses (omega arith) are
