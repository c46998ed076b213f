-- the text and the SVG are those of the picture
use Rattle.std.proofs.Common.{Some, ap, refl}
use Rattle.litmus_command.proofs.show.drawn_picture.Goals as goal
use Rattle.litmus_command.proofs.show.drawn_picture.Goals.{in-false, in-true+in_ok-svg_bytes-in-true}

pub returns-clause-drawn : goal.returns-clause-drawn
returns-clause-drawn c = record {
  text_is = c.in_ok-text.ensures;
  svg_is = elim c.if-wanted.branch [
    | in-true+in_ok-svg_bytes-in-true w ↦ rw w.svg-is (rw w.in-true.is (ap Some w.in_ok-svg_bytes-in-true.ensures))
    | in-false w ↦ rw w.svg-is (rw w.in-false.is refl)
  ];
}
