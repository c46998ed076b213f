use Rattle.prepared_program.proofs.step_schedule.SpellingLemmas.{entry-no_steps, entry-no_task, entry-parts, entry-read}
use Rattle.prepared_program.proofs.step_schedule.schedule.Entry.parse.Goals as goal

pub returns-in_err-task : goal.returns-in_err-task
returns-in_err-task c = λ entry. (
  λ spelled. absurd (rw c.in_err-task.was at (entry-parts c.args.text.now c.split_once.result
      c.split_once.ensures.cases entry spelled)),
  λ e. absurd cc,
)

pub returns-in_err-number : goal.returns-in_err-number
returns-in_err-number c =
    entry-no_task c.args.text.now c.split_once.result (c.in_ok-task.task, c.in_ok-task.steps) c.number.result
    c.from_residual-in_err-number.result
    c.in_ok-task.was c.split_once.ensures.cases c.number.ensures c.in_err-number.was
    c.from_residual-in_err-number.ensures

pub returns-in_err-number-2 : goal.returns-in_err-number-2
returns-in_err-number-2 c =
    entry-no_steps c.args.text.now c.split_once.result (c.in_ok-task.task, c.in_ok-task.steps)
    c.number-2.result c.from_residual-in_err-number-2.result
    c.in_ok-task.was c.split_once.ensures.cases c.number-2.ensures c.in_err-number-2.was
    c.from_residual-in_err-number-2.ensures

pub returns : goal.returns
returns c =
    entry-read c.args.text.now c.split_once.result (c.in_ok-task.task, c.in_ok-task.steps) _
    c.in_ok-task.was c.split_once.ensures.cases
    ((c.number.ensures c.in_ok-number.field-0).1 c.in_ok-number.was) ((c.number-2.ensures
    c.in_ok-number-2.field-0).1 c.in_ok-number-2.was)
