-- A record of the task is one more of its own, and one of another task changes nothing.
use Rattle.slot_table.specs.Discipline.{holds}
use Rattle.slot_table.proofs.Prefixes.{all_made, more_here, more_other}
use Rattle.slot_table.proofs.discipline.is_held_by.Goals as goal
use Rattle.slot_table.proofs.discipline.is_held_by.Goals.{then-record-task, else-record-task}

pub loop-record-preserved : goal.loop-record-preserved
loop-record-preserved c = elim c.if-record-task.branch [
  | then-record-task w ↦
      more_here (holds c.args.lock) c.args.made.now c.loop-record.record-index c.args.task _
      c.if-record-task.is_held c.loop-record-test.true w.if-record-task.true
      (cc w.holds_with-is_held.ensures)
  | else-record-task w ↦
      more_other (holds c.args.lock) c.args.made.now c.loop-record.record-index c.args.task _
      c.if-record-task.is_held c.loop-record-test.true w.if-record-task.false (cc)
]

pub returns : goal.returns
returns c =
    all_made (holds c.args.lock) c.args.made.now c.loop-record.record-index c.args.task
    c.loop-record.is_held c.loop-record-test.false c.loop-record.invariant
