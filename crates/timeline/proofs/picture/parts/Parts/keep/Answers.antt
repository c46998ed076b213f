-- one line more is kept
use Rattle.std.proofs.Common.{append-nil, sym}
use Rattle.report_text.specs.declared.line.Line.TheVariants as lines
use Rattle.timeline.proofs.picture.Steps.{one_kept}
use Rattle.timeline.proofs.picture.parts.Parts.keep.Goals as goal

pub returns-in_ok-push-in-Access : goal.returns-in_ok-push-in-Access
returns-in_ok-push-in-Access c = λ all is. rw c.in-Access.is
    (one_kept all (lines.Access c.in-Access.access) c.args.self.now
    (record { accesses = c.push.new.self; arms = c.args.self.now.arms; takes = c.args.self.now.takes; reports = c.args.self.now.reports }) is
    c.in_ok-push-in-Access.ensures.items (sym (append-nil _)) (sym (append-nil _)) (sym (append-nil _)))

pub returns-in_ok-push-in-Arm : goal.returns-in_ok-push-in-Arm
returns-in_ok-push-in-Arm c = λ all is. rw c.in-Arm.is
    (one_kept all (lines.Arm c.in-Arm.arm) c.args.self.now
    (record { accesses = c.args.self.now.accesses; arms = c.push-in-Arm.new.self; takes = c.args.self.now.takes; reports = c.args.self.now.reports }) is
    (sym (append-nil _)) c.in_ok-push-in-Arm.ensures.items (sym (append-nil _)) (sym (append-nil _)))

pub returns-in_ok-push-in-Take : goal.returns-in_ok-push-in-Take
returns-in_ok-push-in-Take c = λ all is. rw c.in-Take.is
    (one_kept all (lines.Take c.in-Take.take) c.args.self.now
    (record { accesses = c.args.self.now.accesses; arms = c.args.self.now.arms; takes = c.push-in-Take.new.self; reports = c.args.self.now.reports }) is
    (sym (append-nil _)) (sym (append-nil _)) c.in_ok-push-in-Take.ensures.items (sym (append-nil _)))

pub returns-in_ok-push-in-Report : goal.returns-in_ok-push-in-Report
returns-in_ok-push-in-Report c = λ all is. rw c.in-Report.is
    (one_kept all (lines.Report c.in-Report.report) c.args.self.now
    (record { accesses = c.args.self.now.accesses; arms = c.args.self.now.arms; takes = c.args.self.now.takes; reports = c.push-in-Report.new.self }) is
    (sym (append-nil _)) (sym (append-nil _)) (sym (append-nil _)) c.in_ok-push-in-Report.ensures.items)
