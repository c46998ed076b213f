-- what is left of the word decides of what is left of the bytes
use Rattle.std.proofs.Common.{◌≡◌, drop}
use Rattle.trace_replay.specs.trace_lines.FieldReaders.{past}
use Rattle.trace_replay.proofs.trace_lines.fields.past.Given as goal

abbrev pub invariant-loop-i : goal.invariant-loop-i
invariant-loop-i l = past l.word l.bytes ≡ past (drop l.i l.word) (drop l.i l.bytes)
