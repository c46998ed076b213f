use Rattle.std.proofs.Common.{arith}
use Rattle.report_text.specs.Line.{spell_arm}
use Rattle.report_text.proofs.SinkSteps.{fails_item, writes_error}
use Rattle.report_text.proofs.trace.write_arms.Goals as goal

pub returns-in_err-write_arm : goal.returns-in_err-write_arm
returns-in_err-write_arm g c =
    writes_error g.K.Sink.written g.K.Sink.failures _ _ _ _ c.from_residual.ensures.0
    (fails_item g.K.Sink.written g.K.Sink.failures spell_arm c.args.arms.now c.loop-arm.arm-index _ _ _ _
    (omega arith) c.arm-item.is c.loop-arm.invariant c.in_err-write_arm.ensures)
