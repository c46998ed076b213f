-- the piece spells the legend
use Rattle.std.proofs.Common.{◌≡◌, ◌∙◌, append-nil, refl}
use Rattle.report_text.proofs.SinkSteps.{writes_same}
use Rattle.picture_svg.specs.Legend.{legend}
use Rattle.picture_svg.specs.declared.legend.TheConstants.{SIGNS}
use Rattle.picture_svg.proofs.legend.write_legend.Goals as goal

signs_are : SIGNS.now ≡ legend
unfolding legend
signs_are = refl

pub returns : goal.returns
returns g c = writes_same g.K.Sink.written g.K.Sink.failures _ _ _ _ _ (append-nil _ ∙ signs_are) c.write_pieces.ensures
