-- the piece spells the looks
use Rattle.std.proofs.Common.{◌≡◌, ◌∙◌, append-nil, refl}
use Rattle.report_text.proofs.SinkSteps.{writes_same}
use Rattle.picture_svg.specs.Svg.{looks}
use Rattle.picture_svg.specs.declared.write.TheConstants.{LOOKS}
use Rattle.picture_svg.proofs.write.write_looks.Goals as goal

looks_are : LOOKS.now ≡ looks
unfolding looks
looks_are = refl

pub returns : goal.returns
returns g c = writes_same g.K.Sink.written g.K.Sink.failures _ _ _ _ _ (append-nil _ ∙ looks_are) c.write_pieces.ensures
