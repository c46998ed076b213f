-- The statement goes on behind the bytes so far.
use Rattle.std.proofs.Common.{◌≡◌, ◌+◌, drop}
use Rattle.output_pieces.specs.Spots as spec
use Rattle.output_pieces.proofs.spots.statement_len.Given as goal

abbrev pub invariant-loop-len : goal.invariant-loop-len
invariant-loop-len l = spec.statement_len l.bytes ≡ l.len + spec.statement_len (drop l.len l.bytes)
