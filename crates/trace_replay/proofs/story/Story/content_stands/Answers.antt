-- What may stand there is asked of what the line says.
use Rattle.trace_replay.proofs.story.Story.content_stands.Goals as goal

pub returns-in-Second-Arm : goal.returns-in-Second-Arm
returns-in-Second-Arm c = λ all knows. rw (c.in-Second-Arm.is-0, c.in-Second-Arm.is-1) (c.arm_stands.ensures all knows)

pub returns-in-Second-Take : goal.returns-in-Second-Take
returns-in-Second-Take c = λ all knows. rw (c.in-Second-Take.is-0, c.in-Second-Take.is-1) (c.take_stands.ensures all knows)

pub returns-in_default-Access : goal.returns-in_default-Access
returns-in_default-Access c = λ all knows. rw c.in_default-Access.is-1 (c.access_stands.ensures all knows)

pub returns-in_default-Report : goal.returns-in_default-Report
returns-in_default-Report c = λ all knows. rw c.in_default-Report.is-1 (c.report_stands.ensures all knows)
