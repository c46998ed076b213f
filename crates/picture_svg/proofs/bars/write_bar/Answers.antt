-- each part is what its call left, up to the one that failed
use Rattle.report_text.proofs.SinkSteps.{fails_first, fails_second, writes_after, writes_error}
use Rattle.picture_svg.proofs.bars.write_bar.Goals as goal

pub returns-in_err-write_bar_lines : goal.returns-in_err-write_bar_lines
returns-in_err-write_bar_lines g c =
    writes_error g.K.Sink.written g.K.Sink.failures _ _ _ _ c.from_residual.ensures.0
    (fails_first g.K.Sink.written g.K.Sink.failures _ _ _ _ (rw (c.start-x.ensures, c.row_top-upper.ensures, c.row_top-lower.ensures, c.task.ensures.value, c.access.ensures) at c.in_err-write_bar_lines.ensures))

pub returns-in_err-write_statement : goal.returns-in_err-write_statement
returns-in_err-write_statement g c =
    writes_error g.K.Sink.written g.K.Sink.failures _ _ _ _ c.from_residual-in_err-write_statement.ensures.0
    (fails_second g.K.Sink.written g.K.Sink.failures _ _ _ _ _ (rw (c.start-x.ensures, c.row_top-upper.ensures, c.row_top-lower.ensures, c.task.ensures.value, c.access.ensures) at c.in_ok-write_bar_lines.ensures)
    (fails_first g.K.Sink.written g.K.Sink.failures _ _ _ _ (rw (c.start-x.ensures, c.row_top-upper.ensures, c.statement_of.ensures, c.task.ensures.value, c.access.ensures) at c.in_err-write_statement.ensures)))

pub returns : goal.returns
returns g c =
    writes_after g.K.Sink.written g.K.Sink.failures _ _ _ _ _ _ (rw (c.start-x.ensures, c.row_top-upper.ensures, c.row_top-lower.ensures, c.task.ensures.value, c.access.ensures) at c.in_ok-write_bar_lines.ensures)
    (writes_after g.K.Sink.written g.K.Sink.failures _ _ _ _ _ _ (rw (c.start-x.ensures, c.row_top-upper.ensures, c.statement_of.ensures, c.task.ensures.value, c.access.ensures) at c.in_ok-write_statement.ensures)
    c.write_all.ensures)
