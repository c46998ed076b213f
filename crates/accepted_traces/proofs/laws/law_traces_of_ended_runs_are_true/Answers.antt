-- part by part
use Rattle.accepted_traces.proofs.Final.{arm_fits, takes_fit}
use Rattle.accepted_traces.proofs.Reports.{reports_fit}
use Rattle.accepted_traces.proofs.Sections.{hold_all}
use Rattle.report_text.specs.TraceText.{second, written_lines}
use Rattle.executions.specs.execution.Reports.{reports_of}
use Rattle.litmus_semantics.specs.RunOfProgram.{setting_of}
use Rattle.executions.specs.execution.Run.{first_cells, idle, locks_of, task_of}
use Rattle.std.proofs.Common.{arith, refl}
use Rattle.accepted_traces.proofs.laws.law_traces_of_ended_runs_are_true.Goals as goal

pub returns-clause-parts : goal.returns-clause-parts
returns-clause-parts c = λ run records list keeps some most ended accesses arms takes are.
    let each = c.law_records_tell_their_events.ensures.each run records list in
    let first = c.law_records_tell_their_events.ensures.first run records list in
    let stamps = c.law_stamps_tell_the_order.ensures.answers run records list keeps in
    let few = c.law_stamps_tell_the_order.ensures.few run records list keeps in
    let fit = c.law_accesses_that_begin_fit.ensures run records list in
    let over = c.law_accesses_of_ended_tasks_have_ended.ensures run records list ended in
    let rules = c.law_executions_keep_the_discipline.ensures.keeps run records list in
    let watched = c.law_watched_accesses_are_unmarked_and_heard.ensures.setters run records list in
    let told = c.law_watched_accesses_are_unmarked_and_heard.ensures.finders run records list in
    let once = c.law_heard_is_told.ensures.once run.rules.slots (locks_of run) (first_cells run) records rules in
    let takings = c.law_the_bags_are_equal.ensures.takings run records list arms takes ended are.arms_are are.takes_are in
    let tasks = keeps.tasks in
    let reports = c.law_few_are_reported.ensures.limits run records list keeps in
    record {
      few_slots = some;
      slots_limit = most;
      each_access = c.law_accesses_of_runs_fit.ensures.each run records list keeps accesses are.accesses_are are.masks;
      others = c.law_accesses_of_runs_fit.ensures.others run records list keeps accesses are.accesses_are;
      each_arm = λ earlier later arm is.
          arm_fits run records list each stamps few first accesses are.accesses_are fit over
          (λ task below. c.law_tickets_have_room.ensures.tickets (setting_of run.program run.places task) (task_of run task).body (keeps.each_task task idle below).body)
          (λ a begins. (fit a begins).mask) once told watched rules (c.law_verdicts_are_on_watches.ensures run records list)
          (c.law_answers_are_on_a_watch_and_a_find.ensures run records list) c.law_words_read_back.ensures
          (λ later_ earlier_ task armings. c.law_armings_have_their_own_verdicts.ensures run records later_ earlier_ list task armings)
          arms earlier later arm are.arms_are is;
      each_take = takes_fit run records list each stamps few first accesses are.accesses_are fit over
          (λ task below. c.law_tickets_have_room.ensures.tickets (setting_of run.program run.places task) (task_of run task).body (keeps.each_task task idle below).body)
          (λ a begins. (fit a begins).mask) once told watched rules (c.law_verdicts_are_on_watches.ensures run records list)
          (c.law_answers_are_on_a_watch_and_a_find.ensures run records list) c.law_words_read_back.ensures
          (λ later_ earlier_ task armings. c.law_armings_have_their_own_verdicts.ensures run records later_ earlier_ list task armings)
          arms takes are.arms_are some takings;
      each_report = reports_fit run records list each stamps few first accesses are.accesses_are (λ a begins. (fit a begins).below) over
          (λ task below. c.law_tickets_have_room.ensures.tickets (setting_of run.program run.places task) (task_of run task).body (keeps.each_task task idle below).body)
          (λ a begins. (fit a begins).mask) watched (c.law_reports_name_two_sides.ensures run records list)
          (c.law_unknown_origins_changed.ensures.watched run records list) (c.law_reports_are_true.ensures.outcomes run records list);
      takings = takings;
      races = c.law_the_bags_are_equal.ensures.races run records list arms ended are.arms_are;
      origins = c.law_the_bags_are_equal.ensures.origins run records list arms ended are.arms_are;
      few_accesses = omega (arith, c.law_few_are_kept.ensures.accesses run records list accesses keeps are.accesses_are, tasks);
      few_arms = omega (arith, c.law_few_are_kept.ensures.arms run records list arms keeps are.arms_are, tasks);
      few_takes = omega (arith, c.law_few_are_kept.ensures.takes run records list takes keeps are.takes_are, tasks);
      few_reports = omega (arith, reports, tasks);
    }

pub returns-clause-is_true : goal.returns-clause-is_true
returns-clause-is_true c = λ run records list keeps some most ended accesses arms takes are.
    c.law_parts_make_a_true_trace.ensures run.rules.slots run.rules.layout accesses arms takes _
    (returns-clause-parts c run records list keeps some most ended accesses arms takes are)

pub returns-clause-accepted : goal.returns-clause-accepted
returns-clause-accepted c = λ run records list keeps some most ended accesses arms takes are.
    let is = hold_all accesses arms takes (reports_of list) in
    record {
      head = second run.rules.slots run.rules.layout;
      all = written_lines accesses arms takes (reports_of list);
      is_true = returns-clause-is_true c run records list keeps some most ended accesses arms takes are;
      counts_are = rw (is.accesses_are, is.arms_are, is.takes_are, is.reports_are) refl;
    }
