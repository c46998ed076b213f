-- By the lemmas of the law.
use Rattle.setup_access.proofs.DisciplineLemmas.{disciplined_so_far, finished}
use Rattle.setup_access.proofs.laws.law_checks_keep_the_discipline.Goals as goal

pub returns-clause-keeps : goal.returns-clause-keeps
returns-clause-keeps c = λ s. disciplined_so_far s c.law_tickets_read_back.ensures c.law_words_are_above_one.ensures

pub returns-clause-finished : goal.returns-clause-finished
returns-clause-finished c = λ s. finished s c.law_tickets_read_back.ensures c.law_words_are_above_one.ensures
