-- the digits that are counted, and those of what is left, are those of the number
use Rattle.std.proofs.Common.{◌≡◌, ◌+◌, ◌-◌, ◌^◌, ◌<◌, ◌≤◌, [], false, length}
use Rattle.std.specs.Fmt.{digits}
use Rattle.report_text.proofs.HexDigits.{onto}
use Rattle.timeline.proofs.lengths.hex_digits.Given as goal

abbrev pub invariant-loop-rest : goal.invariant-loop-rest
invariant-loop-rest l = record {
  some : 0 < l.count;
  few : l.count ≤ 16;
  room : l.rest < 16 ^ (17 - l.count);
  counted : l.count + length (onto (65 - l.count) l.rest []) ≡ length (digits 16 false l.number) + 1;
}

abbrev pub decreases-loop-rest : goal.decreases-loop-rest
decreases-loop-rest l = l.rest
