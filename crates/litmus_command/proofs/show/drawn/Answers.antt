-- what is drawn is that of the trace's picture
use Rattle.litmus_command.proofs.show.drawn.Goals as goal

pub returns-clause-drawn : goal.returns-clause-drawn
returns-clause-drawn c = record {
  picture = c.in_ok-picture.picture;
  drawn = c.in_ok-picture.ensures.drawn;
  with_source = c.in_ok-written.ensures.drawn;
}
