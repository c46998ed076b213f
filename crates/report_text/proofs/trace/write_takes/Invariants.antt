-- the lines so far are written
use Rattle.std.proofs.Common.{take}
use Rattle.std.specs.List.{flat_map}
use Rattle.report_text.specs.Line.{spell_take}
use Rattle.report_text.specs.Sink.{Takes}
use Rattle.report_text.proofs.trace.write_takes.Given as goal

abbrev pub invariant-loop-take : goal.invariant-loop-take
invariant-loop-take g l =
    Takes g.K.Sink.written g.K.Sink.failures (flat_map spell_take (take l.take-index l.takes)) l.fn.sink l.sink
