-- the pieces spell the line
use Rattle.std.proofs.Common.{◌∙◌}
use Rattle.report_text.proofs.SinkSteps.{writes_same}
use Rattle.picture_text.proofs.Spelled.{race_line_is}
use Rattle.picture_text.proofs.rows.write_race.Goals as goal

pub returns : goal.returns
returns g c = writes_same g.K.Sink.written g.K.Sink.failures _ _ _ _ _
    (race_line_is c.args.style c.args.columns.now c.args.stamp c.args.setter.now c.args.finder.now _ _ _ _ c.place_of-setter.ensures c.place_of-finder.ensures
    (c.min-from.ensures ∙ rw (c.task-watched.ensures.value, c.task-found.ensures.value, c.access.ensures, c.access-2.ensures))
    (c.max-to.ensures ∙ rw (c.task-watched.ensures.value, c.task-found.ensures.value, c.access.ensures, c.access-2.ensures)))
    c.write_line.ensures
