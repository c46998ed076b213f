-- the pieces spell the watchpoint
use Rattle.report_text.proofs.SinkSteps.{writes_same}
use Rattle.picture_svg.proofs.watches.write_watch.Goals as goal

pub returns : goal.returns
returns g c = writes_same g.K.Sink.written g.K.Sink.failures _ _ _ _ _
    (rw (
      c.place_of-place.ensures,
      c.index_words-index.ensures,
      c.outcome_words-outcome.ensures,
      c.watch_rect-rect.ensures,
      c.index.ensures,
      c.outcome.ensures,
      c.start.ensures,
      c.row_top.ensures,
      c.watch_end.ensures,
      c.rows_before.ensures,
      c.begin.ensures,
      c.task.ensures.value,
      c.access.ensures,
    ))
    c.write_parts.ensures
