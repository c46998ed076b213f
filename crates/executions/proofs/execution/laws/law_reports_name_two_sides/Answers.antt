-- By what the records of the setter and of the finder say, and by the table.
use Rattle.executions.proofs.execution.TwoSides.{all_named}
use Rattle.executions.proofs.execution.laws.law_reports_name_two_sides.Goals as goal

pub returns : goal.returns
returns c = λ run records list.
    all_named run records list (c.law_executions_keep_the_discipline.ensures.keeps run records list) c.law_words_read_back.ensures
