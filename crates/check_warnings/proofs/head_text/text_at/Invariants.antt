-- What is found from here on is what is found from the first place on.
use Rattle.std.proofs.Common.{◌≡◌, drop}
use Rattle.check_warnings.specs.HeadScan.{text_at}
use Rattle.check_warnings.proofs.head_text.text_at.Given as goal

abbrev pub invariant-loop-at : goal.invariant-loop-at
invariant-loop-at l = text_at l.within l.at (drop l.at l.text) ≡ text_at l.fn.first l.from (drop l.from l.text)
