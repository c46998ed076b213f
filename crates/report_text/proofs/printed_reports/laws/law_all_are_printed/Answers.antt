-- no test is asked
use Rattle.std.proofs.Common.{refl, true}
use Rattle.report_text.proofs.printed_reports.TextLemmas.{all_left}
use Rattle.report_text.specs.printed_reports.Printed.{is_printed}
use Rattle.report_text.specs.printed_reports.Texts.{is_printed_text}
use Rattle.report_text.proofs.printed_reports.laws.law_all_are_printed.Goals as goal

pub returns-clause-reports : goal.returns-clause-reports
returns-clause-reports c = λ sites all. all_left (is_printed true sites) (λ report. refl) all

pub returns-clause-texts : goal.returns-clause-texts
returns-clause-texts c = λ all. all_left (is_printed_text true) (λ text. refl) all
