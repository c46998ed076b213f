-- those of the kind that the loop has passed
use Rattle.std.proofs.Common.{◌≡◌, take}
use Rattle.oracle_soundness.specs.oracle_headline.Kinds.{is_made}
use Rattle.oracle_soundness.specs.oracle_headline.Tried.{made_so}
use Rattle.oracle_soundness.proofs.oracle_headline.totals.count_made.Given as goal

abbrev pub invariant-loop-made : goal.invariant-loop-made
invariant-loop-made l = l.count ≡ made_so (is_made l.kind) (take l.made-index l.records)
