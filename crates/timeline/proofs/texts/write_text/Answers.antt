-- one item more, or a failure within it
use Rattle.std.proofs.Common.{arith}
use Rattle.timeline.specs.Texts.{byte_text}
use Rattle.report_text.proofs.SinkSteps.{fails_at, writes_error}
use Rattle.timeline.proofs.texts.write_text.Goals as goal

pub returns-in_err-write_byte : goal.returns-in_err-write_byte
returns-in_err-write_byte g c =
    writes_error g.K.Sink.written g.K.Sink.failures _ _ _ _ c.from_residual.ensures.0
    (fails_at g.K.Sink.written g.K.Sink.failures (byte_text c.args.markup) c.args.text.now c.loop-byte.byte-index _ _ _ _
    (omega arith) c.loop-byte.invariant c.in_err-write_byte.ensures)
