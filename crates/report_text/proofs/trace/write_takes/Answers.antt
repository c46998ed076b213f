use Rattle.std.proofs.Common.{arith}
use Rattle.report_text.specs.Line.{spell_take}
use Rattle.report_text.proofs.SinkSteps.{fails_item, writes_error}
use Rattle.report_text.proofs.trace.write_takes.Goals as goal

pub returns-in_err-write_take : goal.returns-in_err-write_take
returns-in_err-write_take g c =
    writes_error g.K.Sink.written g.K.Sink.failures _ _ _ _ c.from_residual.ensures.0
    (fails_item g.K.Sink.written g.K.Sink.failures spell_take c.args.takes.now c.loop-take.take-index _ _ _ _
    (omega arith) c.take-item.is c.loop-take.invariant c.in_err-write_take.ensures)
