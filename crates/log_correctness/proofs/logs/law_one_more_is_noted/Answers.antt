-- Two readings of a text by the same records tell the same.
use Rattle.log_correctness.proofs.Growth.{one_more_listed, one_more_own, others_stay}
use Rattle.log_correctness.proofs.logs.law_one_more_is_noted.Goals as goal

pub returns-clause-own : goal.returns-clause-own
returns-clause-own c = one_more_own

pub returns-clause-list : goal.returns-clause-list
returns-clause-list c = λ run latest earlier before noted one other are last. one_more_listed run latest earlier one other before noted are last

pub returns-clause-others : goal.returns-clause-others
returns-clause-others c = λ run latest earlier task before one other apart are. others_stay run latest earlier one other task before apart are

pub returns-clause-none : goal.returns-clause-none
returns-clause-none c = λ run list task. tt
