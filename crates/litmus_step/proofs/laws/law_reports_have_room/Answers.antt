-- By the law on what is reported.
use Rattle.litmus_step.proofs.laws.law_reports_have_room.Goals as goal

pub returns : goal.returns
returns c = c.law_few_are_reported.ensures.text
