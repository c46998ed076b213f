-- the pieces spell the taking
use Rattle.report_text.proofs.SinkSteps.{writes_same}
use Rattle.picture_svg.proofs.watches.write_taking.Goals as goal

pub returns : goal.returns
returns g c = writes_same g.K.Sink.written g.K.Sink.failures _ _ _ _ _
    (rw (
      c.place_of-took.ensures,
      c.index_words-index.ensures,
      c.place_of-watched.ensures,
      c.arrow-arrow.ensures,
      c.index.ensures,
      c.start.ensures,
      c.start-2.ensures,
      c.row_top.ensures,
      c.rows_before.ensures,
      c.max.ensures,
      c.begin.ensures,
      c.begin-2.ensures,
      c.task.ensures.value,
      c.task-2.ensures.value,
      c.access.ensures,
      c.access-2.ensures,
    ))
    c.write_parts.ensures
