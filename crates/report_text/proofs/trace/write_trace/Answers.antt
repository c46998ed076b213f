-- each part is what its call left, up to the one that failed
use Rattle.report_text.specs.TraceText.{end_line}
use Rattle.report_text.proofs.SinkSteps.{fails_first, writes_after, writes_error, writes_same}
use Rattle.report_text.proofs.Written.{written_is}
use Rattle.report_text.proofs.trace.write_trace.Goals as goal

pub returns-in_err-write_head : goal.returns-in_err-write_head
returns-in_err-write_head g c =
    writes_same g.K.Sink.written g.K.Sink.failures _ _ _ _ _
    (written_is c.args.slots c.args.layout c.args.accesses.now c.args.arms.now c.args.takes.now c.args.reports.now)
    (writes_error g.K.Sink.written g.K.Sink.failures _ _ _ _ c.from_residual.ensures.0
    (fails_first g.K.Sink.written g.K.Sink.failures _ _ _ _ c.in_err-write_head.ensures))

pub returns-in_err-write_accesses : goal.returns-in_err-write_accesses
returns-in_err-write_accesses g c =
    writes_same g.K.Sink.written g.K.Sink.failures _ _ _ _ _
    (written_is c.args.slots c.args.layout c.args.accesses.now c.args.arms.now c.args.takes.now c.args.reports.now)
    (writes_after g.K.Sink.written g.K.Sink.failures _ _ _ _ _ _ c.in_ok-write_head.ensures
    (writes_error g.K.Sink.written g.K.Sink.failures _ _ _ _ c.from_residual-in_err-write_accesses.ensures.0
    (fails_first g.K.Sink.written g.K.Sink.failures _ _ _ _ c.in_err-write_accesses.ensures)))

pub returns-in_err-write_arms : goal.returns-in_err-write_arms
returns-in_err-write_arms g c =
    writes_same g.K.Sink.written g.K.Sink.failures _ _ _ _ _
    (written_is c.args.slots c.args.layout c.args.accesses.now c.args.arms.now c.args.takes.now c.args.reports.now)
    (writes_after g.K.Sink.written g.K.Sink.failures _ _ _ _ _ _ c.in_ok-write_head.ensures
    (writes_after g.K.Sink.written g.K.Sink.failures _ _ _ _ _ _ c.in_ok-write_accesses.ensures
    (writes_error g.K.Sink.written g.K.Sink.failures _ _ _ _ c.from_residual-in_err-write_arms.ensures.0
    (fails_first g.K.Sink.written g.K.Sink.failures _ _ _ _ c.in_err-write_arms.ensures))))

pub returns-in_err-write_takes : goal.returns-in_err-write_takes
returns-in_err-write_takes g c =
    writes_same g.K.Sink.written g.K.Sink.failures _ _ _ _ _
    (written_is c.args.slots c.args.layout c.args.accesses.now c.args.arms.now c.args.takes.now c.args.reports.now)
    (writes_after g.K.Sink.written g.K.Sink.failures _ _ _ _ _ _ c.in_ok-write_head.ensures
    (writes_after g.K.Sink.written g.K.Sink.failures _ _ _ _ _ _ c.in_ok-write_accesses.ensures
    (writes_after g.K.Sink.written g.K.Sink.failures _ _ _ _ _ _ c.in_ok-write_arms.ensures
    (writes_error g.K.Sink.written g.K.Sink.failures _ _ _ _ c.from_residual-in_err-write_takes.ensures.0
    (fails_first g.K.Sink.written g.K.Sink.failures _ _ _ _ c.in_err-write_takes.ensures)))))

pub returns-in_err-write_reports : goal.returns-in_err-write_reports
returns-in_err-write_reports g c =
    writes_same g.K.Sink.written g.K.Sink.failures _ _ _ _ _
    (written_is c.args.slots c.args.layout c.args.accesses.now c.args.arms.now c.args.takes.now c.args.reports.now)
    (writes_after g.K.Sink.written g.K.Sink.failures _ _ _ _ _ _ c.in_ok-write_head.ensures
    (writes_after g.K.Sink.written g.K.Sink.failures _ _ _ _ _ _ c.in_ok-write_accesses.ensures
    (writes_after g.K.Sink.written g.K.Sink.failures _ _ _ _ _ _ c.in_ok-write_arms.ensures
    (writes_after g.K.Sink.written g.K.Sink.failures _ _ _ _ _ _ c.in_ok-write_takes.ensures
    (writes_error g.K.Sink.written g.K.Sink.failures _ _ _ _ c.from_residual-in_err-write_reports.ensures.0
    (fails_first g.K.Sink.written g.K.Sink.failures _ _ _ _ c.in_err-write_reports.ensures))))))

pub returns : goal.returns
unfolding end_line
returns g c =
    writes_same g.K.Sink.written g.K.Sink.failures _ _ _ _ _
    (written_is c.args.slots c.args.layout c.args.accesses.now c.args.arms.now c.args.takes.now c.args.reports.now)
    (writes_after g.K.Sink.written g.K.Sink.failures _ _ _ _ _ _ c.in_ok-write_head.ensures
    (writes_after g.K.Sink.written g.K.Sink.failures _ _ _ _ _ _ c.in_ok-write_accesses.ensures
    (writes_after g.K.Sink.written g.K.Sink.failures _ _ _ _ _ _ c.in_ok-write_arms.ensures
    (writes_after g.K.Sink.written g.K.Sink.failures _ _ _ _ _ _ c.in_ok-write_takes.ensures
    (writes_after g.K.Sink.written g.K.Sink.failures _ _ _ _ _ _ c.in_ok-write_reports.ensures
    c.write_pieces.ensures)))))
