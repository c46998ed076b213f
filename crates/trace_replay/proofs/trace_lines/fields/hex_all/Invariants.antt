-- what is left to read is what was to be read at first
use Rattle.std.proofs.Common.{◌≡◌, ◌^◌, ◌<◌, drop}
use Rattle.trace_replay.specs.trace_lines.FieldReaders.{hex_all}
use Rattle.trace_replay.proofs.trace_lines.fields.hex_all.Given as goal

abbrev pub invariant-loop-digit : goal.invariant-loop-digit
invariant-loop-digit l = record {
  reads : hex_all 0 l.digits ≡ hex_all l.value (drop l.digit-index l.digits);
  small : l.value < 16 ^ l.digit-index;
}
