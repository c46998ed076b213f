-- so many digits are written
use Rattle.std.proofs.Common.{replicate}
use Rattle.report_text.specs.Sink.{Takes}
use Rattle.report_text.proofs.pieces.write_zeros.Given as goal

abbrev pub invariant-loop-counter : goal.invariant-loop-counter
invariant-loop-counter g l =
    Takes g.K.Sink.written g.K.Sink.failures (replicate l.counter 48) l.fn.sink l.sink
