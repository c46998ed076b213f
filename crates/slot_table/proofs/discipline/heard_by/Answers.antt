-- A record of the task is one more of its own, and one of another task changes nothing.
use Rattle.slot_table.specs.Discipline.{heard}
use Rattle.slot_table.proofs.Prefixes.{all_made, more_here, more_other}
use Rattle.slot_table.proofs.discipline.heard_by.Goals as goal
use Rattle.slot_table.proofs.discipline.heard_by.Goals.{then-record-task, else-record-task}

pub loop-record-preserved : goal.loop-record-preserved
loop-record-preserved c = elim c.if-record-task.branch [
  | then-record-task w ↦
      more_here (heard c.args.index) c.args.made.now c.loop-record.record-index c.args.task _
      c.if-record-task.both c.loop-record-test.true w.if-record-task.true
      (cc w.heard_with-both.ensures)
  | else-record-task w ↦
      more_other (heard c.args.index) c.args.made.now c.loop-record.record-index c.args.task _
      c.if-record-task.both c.loop-record-test.true w.if-record-task.false (cc)
]

pub returns : goal.returns
returns c =
    all_made (heard c.args.index) c.args.made.now c.loop-record.record-index c.args.task
    c.loop-record.both c.loop-record-test.false c.loop-record.invariant
