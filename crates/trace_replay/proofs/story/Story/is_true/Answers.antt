-- Whether the line is true is asked of what it says.
use Rattle.std.proofs.Common.{sym, true≢false}
use Rattle.trace_replay.proofs.story.Story.is_true.Goals as goal

pub returns-in-Second-Arm : goal.returns-in-Second-Arm
returns-in-Second-Arm c = λ all knows. rw (c.in-Second-Arm.is-0, c.in-Second-Arm.is-1) (c.arm_is_true.ensures all knows)

pub returns-in-First-Arm : goal.returns-in-First-Arm
returns-in-First-Arm c = λ all knows. rw (c.in-First-Arm.is-0, c.in-First-Arm.is-1) (λ yes. absurd (true≢false (sym yes)), λ is. absurd is)

pub returns-in_default-Report : goal.returns-in_default-Report
returns-in_default-Report c = λ all knows. rw c.in_default-Report.is-1 (c.report_is_true.ensures all knows)
