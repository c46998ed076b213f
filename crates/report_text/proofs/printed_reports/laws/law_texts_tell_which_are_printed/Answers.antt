-- by the title
use Rattle.report_text.proofs.printed_reports.TextLemmas.{hidden_told, printed_told}
use Rattle.report_text.proofs.printed_reports.laws.law_texts_tell_which_are_printed.Goals as goal

pub returns-clause-one : goal.returns-clause-one
returns-clause-one c = hidden_told

pub returns-clause-all : goal.returns-clause-all
returns-clause-all c = printed_told
