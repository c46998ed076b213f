use Rattle.std.proofs.Common.{arith}
use Rattle.report_text.proofs.SinkSteps.{fails_at, writes_error}
use Rattle.search_text.specs.Schedules.{later_text}
use Rattle.search_text.proofs.schedules.write_more.Goals as goal

pub returns-in_err-write_later : goal.returns-in_err-write_later
returns-in_err-write_later g c =
    writes_error g.K.Sink.written g.K.Sink.failures _ _ _ _ c.from_residual.ensures.0
    (fails_at g.K.Sink.written g.K.Sink.failures later_text c.args.entries.now
    c.loop-entry.entry-index _ _ _ _ (omega arith) c.loop-entry.invariant c.in_err-write_later.ensures)
