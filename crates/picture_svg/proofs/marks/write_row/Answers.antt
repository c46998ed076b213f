-- each mark is what its call left
use Rattle.report_text.proofs.SinkSteps.{writes_same}
use Rattle.picture_svg.proofs.marks.write_row.Goals as goal

pub returns-in-Begin : goal.returns-in-Begin
returns-in-Begin g c = writes_same g.K.Sink.written g.K.Sink.failures _ _ _ _ _
    (rw (c.rows_before-bottom.ensures, c.deref.ensures.value, c.end.ensures, c.in-Begin.is)) c.write_bar.ensures

pub returns-in-End : goal.returns-in-End
returns-in-End g c = writes_same g.K.Sink.written g.K.Sink.failures _ _ _ _ _
    (rw (c.deref-in-End.ensures.value, c.start-x.ensures, c.row_top-top.ensures, c.task.ensures.value, c.access.ensures, c.in-End.is)) c.write_note.ensures

pub returns-in-Race : goal.returns-in-Race
returns-in-Race g c = writes_same g.K.Sink.written g.K.Sink.failures _ _ _ _ _ (rw (c.row_top-top.ensures, c.in-Race.is)) c.write_race.ensures

pub returns-in-Origin : goal.returns-in-Origin
returns-in-Origin g c = writes_same g.K.Sink.written g.K.Sink.failures _ _ _ _ _ (rw (c.row_top-top.ensures, c.in-Origin.is)) c.write_origin.ensures
