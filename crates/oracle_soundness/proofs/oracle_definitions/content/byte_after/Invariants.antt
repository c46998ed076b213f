-- the byte after the moments that the loop has passed
use Rattle.std.proofs.Common.{◌≡◌, take}
use Rattle.access_types.specs.History.{after_moments}
use Rattle.oracle_soundness.proofs.oracle_definitions.content.byte_after.Given as goal

abbrev pub invariant-loop-moment : goal.invariant-loop-moment
invariant-loop-moment l = l.byte ≡ after_moments (λ _. 0) (take l.moment-index l.history) l.address
