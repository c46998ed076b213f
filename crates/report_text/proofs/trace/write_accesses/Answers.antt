use Rattle.std.proofs.Common.{arith}
use Rattle.report_text.specs.Line.{spell_access}
use Rattle.report_text.proofs.SinkSteps.{fails_item, writes_error}
use Rattle.report_text.proofs.trace.write_accesses.Goals as goal

pub returns-in_err-write_access : goal.returns-in_err-write_access
returns-in_err-write_access g c =
    writes_error g.K.Sink.written g.K.Sink.failures _ _ _ _ c.from_residual.ensures.0
    (fails_item g.K.Sink.written g.K.Sink.failures spell_access c.args.accesses.now c.loop-stamped.stamped-index _ _ _ _
    (omega arith) c.stamped-item.is c.loop-stamped.invariant c.in_err-write_access.ensures)
