-- The reasons so far are written.
use Rattle.std.proofs.Common.{◌≡◌, take}
use Rattle.std.specs.List.{flat_map}
use Rattle.race_output.specs.Reasons.{texts}
use Rattle.race_page.specs.Pairs as spec
use Rattle.race_page.proofs.pairs.reasons_text.Given as goal

abbrev pub invariant-loop-reason : goal.invariant-loop-reason
invariant-loop-reason l = l.text.items ≡ flat_map spec.reason_text (texts (take l.reason-index l.reasons))
