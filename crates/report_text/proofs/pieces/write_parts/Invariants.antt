-- the parts so far are written
use Rattle.std.proofs.Common.{take}
use Rattle.report_text.specs.Pieces.{text_of_parts}
use Rattle.report_text.specs.Sink.{Takes}
use Rattle.report_text.proofs.pieces.write_parts.Given as goal

abbrev pub invariant-loop-part : goal.invariant-loop-part
invariant-loop-part g l =
    Takes g.K.Sink.written g.K.Sink.failures (text_of_parts (take l.part-index l.parts)) l.fn.sink l.sink
