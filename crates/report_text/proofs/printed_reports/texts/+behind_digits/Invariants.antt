-- The bytes left are fewer.
use Rattle.std.proofs.Common.{length}
use Rattle.report_text.proofs.printed_reports.texts.+behind_digits.Given as goal

abbrev pub decreases-behind_digits : goal.decreases-behind_digits
decreases-behind_digits l = length l.text.now
