-- each moment adds its own mark, if it has one
use Rattle.std.proofs.Common.{◌++◌, ◌∙◌, ap, append-nil, sym}
use Rattle.oracle_soundness.proofs.oracle_definitions.MarkLists.{marks_of-push}
use Rattle.oracle_soundness.proofs.oracle_definitions.marked.marks_of.Goals as goal
use Rattle.oracle_soundness.proofs.oracle_definitions.marked.marks_of.Goals.{in-Some+in_ok-push, in_default}

pub loop-moment-preserved : goal.loop-moment-preserved
loop-moment-preserved c =
    let pushed =
    marks_of-push c.args.task c.args.history.now
    c.loop-moment.moment-index c.moment-item.result c.loop-moment.marks.items
    c.loop-moment-test.true c.moment-item.is c.loop-moment.invariant in
    elim c.match-mark_of.branch [
      | in-Some+in_ok-push w ↦ rw w.marks-is
          (w.in_ok-push.ensures.items
          ∙ sym (ap (λ own. c.loop-moment.marks.items ++ own) w.in-Some.ensures) ∙ pushed)
      | in_default w ↦ rw w.marks-is
          (sym (append-nil c.loop-moment.marks.items)
          ∙ sym (ap (λ own. c.loop-moment.marks.items ++ own) w.in_default.ensures) ∙ pushed)
    ]
