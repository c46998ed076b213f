-- the value so far is that of the digits so far
use Rattle.std.proofs.Common.{◌≡◌, ◌^◌, ◌<◌, take}
use Rattle.std.specs.Str.Parse.{digits_value}
use Rattle.trace_replay.proofs.trace_lines.fields.small_value.Given as goal

abbrev pub invariant-loop-digit : goal.invariant-loop-digit
invariant-loop-digit l = record {
  is : l.value ≡ digits_value 10 (take l.digit-index l.digits);
  small : l.value < 2 ^ 64;
}
