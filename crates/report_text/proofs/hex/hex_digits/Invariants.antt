-- what is left of the number has room, and its digits come before those that stand
use Rattle.std.proofs.Common.{◌≡◌, ◌+◌, ◌^◌, ◌<◌, ◌≤◌, false, drop, length}
use Rattle.std.specs.Fmt.{digits}
use Rattle.report_text.proofs.HexDigits.{onto}
use Rattle.report_text.proofs.hex.hex_digits.Given as goal

abbrev pub invariant-loop-rest : goal.invariant-loop-rest
invariant-loop-rest l =
    (length l.buffer ≡ 16) × (l.start ≤ 16) × (0 < l.start) × (l.rest < 16 ^ l.start)
    × (onto (l.start + 48) l.rest (drop l.start l.buffer) ≡ digits 16 false l.number)

abbrev pub decreases-loop-rest : goal.decreases-loop-rest
decreases-loop-rest l = l.rest
