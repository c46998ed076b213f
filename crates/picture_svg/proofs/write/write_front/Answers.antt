-- each part is what its call left, up to the one that failed
use Rattle.report_text.proofs.SinkSteps.{fails_first, fails_second, writes_after, writes_error}
use Rattle.picture_svg.proofs.write.write_front.Goals as goal

pub returns-in_err-write_title : goal.returns-in_err-write_title
returns-in_err-write_title g c =
    writes_error g.K.Sink.written g.K.Sink.failures _ _ _ _ c.from_residual.ensures.0
    (fails_first g.K.Sink.written g.K.Sink.failures _ _ _ _ (rw (
      c.opening-opening.ensures,
      c.width_of-width.ensures,
      c.saturating_add-height.ensures,
      c.row_top.ensures,
      c.len.ensures,
      c.args.picture.now.rows.ok.0,
    ) at c.in_err-write_title.ensures))

pub returns-in_err-write_looks : goal.returns-in_err-write_looks
returns-in_err-write_looks g c =
    writes_error g.K.Sink.written g.K.Sink.failures _ _ _ _ c.from_residual-in_err-write_looks.ensures.0
    (fails_second g.K.Sink.written g.K.Sink.failures _ _ _ _ _ (rw (
      c.opening-opening.ensures,
      c.width_of-width.ensures,
      c.saturating_add-height.ensures,
      c.row_top.ensures,
      c.len.ensures,
      c.args.picture.now.rows.ok.0,
    ) at c.in_ok-write_title.ensures)
    (fails_first g.K.Sink.written g.K.Sink.failures _ _ _ _ c.in_err-write_looks.ensures))

pub returns-in_err-write_title-2 : goal.returns-in_err-write_title-2
returns-in_err-write_title-2 g c =
    writes_error g.K.Sink.written g.K.Sink.failures _ _ _ _ c.from_residual-in_err-write_title-2.ensures.0
    (fails_second g.K.Sink.written g.K.Sink.failures _ _ _ _ _ (rw (
      c.opening-opening.ensures,
      c.width_of-width.ensures,
      c.saturating_add-height.ensures,
      c.row_top.ensures,
      c.len.ensures,
      c.args.picture.now.rows.ok.0,
    ) at c.in_ok-write_title.ensures)
    (fails_second g.K.Sink.written g.K.Sink.failures _ _ _ _ _ c.in_ok-write_looks.ensures
    (fails_first g.K.Sink.written g.K.Sink.failures _ _ _ _ c.in_err-write_title-2.ensures)))

pub returns : goal.returns
returns g c =
    writes_after g.K.Sink.written g.K.Sink.failures _ _ _ _ _ _ (rw (
      c.opening-opening.ensures,
      c.width_of-width.ensures,
      c.saturating_add-height.ensures,
      c.row_top.ensures,
      c.len.ensures,
      c.args.picture.now.rows.ok.0,
    ) at c.in_ok-write_title.ensures)
    (writes_after g.K.Sink.written g.K.Sink.failures _ _ _ _ _ _ c.in_ok-write_looks.ensures
    (writes_after g.K.Sink.written g.K.Sink.failures _ _ _ _ _ _ c.in_ok-write_title-2.ensures
    c.write_settings.ensures))
