-- At the beginning of a text there is room for all of it.
use Rattle.task_plan.proofs.task_laws.TextLemmas.{fits_first, text_begins, text_spelled}
use Rattle.task_plan.proofs.task_laws.spelled.law_texts_within_limits_are_spelled.Goals as goal

pub returns-clause-fits : goal.returns-clause-fits
returns-clause-fits c = fits_first

pub returns-clause-spelled : goal.returns-clause-spelled
returns-clause-spelled c = text_spelled

pub returns-clause-begins : goal.returns-clause-begins
returns-clause-begins c = text_begins
