-- The bytes so far are escaped.
use Rattle.std.proofs.Common.{◌≡◌, take}
use Rattle.race_page.specs.Escape as spec
use Rattle.race_page.proofs.escape.escaped.Given as goal

abbrev pub invariant-loop-byte : goal.invariant-loop-byte
invariant-loop-byte l = l.found.items ≡ spec.escaped (take l.byte-index l.text)
