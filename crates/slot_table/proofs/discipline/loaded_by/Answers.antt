-- A record of the task is one more of its own, and one of another task changes nothing.
use Rattle.slot_table.specs.Discipline.{last_load}
use Rattle.slot_table.proofs.Prefixes.{all_made, more_here, more_other}
use Rattle.slot_table.proofs.discipline.loaded_by.Goals as goal
use Rattle.slot_table.proofs.discipline.loaded_by.Goals.{then-record-task, else-record-task}

pub loop-record-preserved : goal.loop-record-preserved
loop-record-preserved c = elim c.if-record-task.branch [
  | then-record-task w ↦
      more_here (last_load c.args.index) c.args.made.now c.loop-record.record-index c.args.task _
      c.if-record-task.word c.loop-record-test.true w.if-record-task.true
      (cc w.loaded_with-word.ensures)
  | else-record-task w ↦
      more_other (last_load c.args.index) c.args.made.now c.loop-record.record-index c.args.task _
      c.if-record-task.word c.loop-record-test.true w.if-record-task.false (cc)
]

pub returns : goal.returns
returns c =
    all_made (last_load c.args.index) c.args.made.now c.loop-record.record-index c.args.task
    c.loop-record.word c.loop-record-test.false c.loop-record.invariant
