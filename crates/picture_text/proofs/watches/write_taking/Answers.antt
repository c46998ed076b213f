-- the pieces spell the line
use Rattle.report_text.proofs.SinkSteps.{writes_same}
use Rattle.picture_text.proofs.watches.write_taking.Goals as goal

pub returns : goal.returns
returns g c = writes_same g.K.Sink.written g.K.Sink.failures _ _ _ _ _
    (rw (c.place_of-finder.ensures, c.index_words-index.ensures, c.place_of-setter.ensures, c.index.ensures))
    c.write_parts.ensures
