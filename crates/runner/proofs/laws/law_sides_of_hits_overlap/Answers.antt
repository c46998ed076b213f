-- By what each arming of a true trace says, and since armings and takings tell of the same.
use Rattle.std.proofs.Common.{drop, get_or, suc, take}
use Rattle.std.proofs.Math.Seq.{split_at}
use Rattle.accepted_traces.proofs.Final.{arm_fits}
use Rattle.executions.specs.execution.Run.{first_cells, idle, locks_of, task_of}
use Rattle.litmus_semantics.specs.RunOfProgram.{setting_of}
use Rattle.runner.proofs.HitLemmas.{arm_overlaps}
use Rattle.runner.proofs.laws.law_sides_of_hits_overlap.Goals as goal

pub returns : goal.returns
returns c = λ run records list keeps ended accesses arms takes are are_arms are_takes.
    let fit = c.law_accesses_that_begin_fit.ensures run records list in
    let rules = c.law_executions_keep_the_discipline.ensures.keeps run records list in
    let fits = arm_fits run records list (c.law_records_tell_their_events.ensures.each run records list)
    (c.law_stamps_tell_the_order.ensures.answers run records list keeps) (c.law_stamps_tell_the_order.ensures.few run records list keeps)
    (c.law_records_tell_their_events.ensures.first run records list) accesses are fit
    (c.law_accesses_of_ended_tasks_have_ended.ensures run records list ended)
    (λ task below. c.law_tickets_have_room.ensures.tickets (setting_of run.program run.places task) (task_of run task).body
    (keeps.each_task task idle below).body)
    (λ a begins. (fit a begins).mask) (c.law_heard_is_told.ensures.once run.rules.slots (locks_of run) (first_cells run) records rules)
    (c.law_watched_accesses_are_unmarked_and_heard.ensures.finders run records list)
    (c.law_watched_accesses_are_unmarked_and_heard.ensures.setters run records list) rules
    (c.law_verdicts_are_on_watches.ensures run records list) (c.law_answers_are_on_a_watch_and_a_find.ensures run records list)
    c.law_words_read_back.ensures
    (λ later earlier task armings. c.law_armings_have_their_own_verdicts.ensures run records later earlier list task armings) in
    record {
      each_arm = λ at d below.
          let arm = get_or arms at d in
          arm_overlaps run.rules.slots run.rules.layout accesses (take at arms) arm
          (fits arms (take at arms) (drop (suc at) arms) arm are_arms (split_at arms at d below));
      takings = c.law_the_bags_are_equal.ensures.takings run records list arms takes ended are_arms are_takes;
    }
