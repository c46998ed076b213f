-- each part is what its call left, up to the one that failed
use Rattle.std.proofs.Common.{◌≡◌, ℕ, List, ap}
use Rattle.report_text.proofs.SinkSteps.{fails_first, fails_second, writes_after, writes_error, writes_same}
use Rattle.timeline.specs.declared.picture.draw.Picture.{Picture}
use Rattle.timeline.specs.declared.picture.labels.Label.{Label}
use Rattle.picture_svg.specs.declared.lanes.Lanes.{Lanes}
use Rattle.picture_svg.specs.Lanes.{lanes_of}
use Rattle.picture_svg.specs.Svg.{captioned_svg, svg_with}
use Rattle.picture_svg.proofs.write.write_captioned_svg.Goals as goal

-- what is drawn with the lanes of the picture
drawn : (picture : Picture) (test settings : List ℕ) (labels : List Label) (lanes : Lanes) → lanes ≡ lanes_of picture labels
    → svg_with picture test settings labels lanes ≡ captioned_svg picture test settings labels
unfolding captioned_svg
drawn picture test settings labels lanes are = ap (λ (these : Lanes). svg_with picture test settings labels these) are

pub returns-in_err-write_head : goal.returns-in_err-write_head
returns-in_err-write_head g c =
    writes_same g.K.Sink.written g.K.Sink.failures _ _ _ _ _ (drawn c.args.picture.now c.args.captions.test.now c.args.captions.settings.now c.args.captions.labels.now _ c.lanes_of-lanes.ensures)
    (writes_error g.K.Sink.written g.K.Sink.failures _ _ _ _ c.from_residual.ensures.0
    (fails_first g.K.Sink.written g.K.Sink.failures _ _ _ _ c.in_err-write_head.ensures))

pub returns-in_err-write_rows : goal.returns-in_err-write_rows
returns-in_err-write_rows g c =
    writes_same g.K.Sink.written g.K.Sink.failures _ _ _ _ _ (drawn c.args.picture.now c.args.captions.test.now c.args.captions.settings.now c.args.captions.labels.now _ c.lanes_of-lanes.ensures)
    (writes_error g.K.Sink.written g.K.Sink.failures _ _ _ _ c.from_residual-in_err-write_rows.ensures.0
    (fails_second g.K.Sink.written g.K.Sink.failures _ _ _ _ _ c.in_ok-write_head.ensures
    (fails_first g.K.Sink.written g.K.Sink.failures _ _ _ _ c.in_err-write_rows.ensures)))

pub returns-in_err-write_watches : goal.returns-in_err-write_watches
returns-in_err-write_watches g c =
    writes_same g.K.Sink.written g.K.Sink.failures _ _ _ _ _ (drawn c.args.picture.now c.args.captions.test.now c.args.captions.settings.now c.args.captions.labels.now _ c.lanes_of-lanes.ensures)
    (writes_error g.K.Sink.written g.K.Sink.failures _ _ _ _ c.from_residual-in_err-write_watches.ensures.0
    (fails_second g.K.Sink.written g.K.Sink.failures _ _ _ _ _ c.in_ok-write_head.ensures
    (fails_second g.K.Sink.written g.K.Sink.failures _ _ _ _ _ c.in_ok-write_rows.ensures
    (fails_first g.K.Sink.written g.K.Sink.failures _ _ _ _ (rw (c.deref.ensures.value, c.deref-2.ensures.value) at c.in_err-write_watches.ensures)))))

pub returns-in_err-write_takings : goal.returns-in_err-write_takings
returns-in_err-write_takings g c =
    writes_same g.K.Sink.written g.K.Sink.failures _ _ _ _ _ (drawn c.args.picture.now c.args.captions.test.now c.args.captions.settings.now c.args.captions.labels.now _ c.lanes_of-lanes.ensures)
    (writes_error g.K.Sink.written g.K.Sink.failures _ _ _ _ c.from_residual-in_err-write_takings.ensures.0
    (fails_second g.K.Sink.written g.K.Sink.failures _ _ _ _ _ c.in_ok-write_head.ensures
    (fails_second g.K.Sink.written g.K.Sink.failures _ _ _ _ _ c.in_ok-write_rows.ensures
    (fails_second g.K.Sink.written g.K.Sink.failures _ _ _ _ _ (rw (c.deref.ensures.value, c.deref-2.ensures.value) at c.in_ok-write_watches.ensures)
    (fails_first g.K.Sink.written g.K.Sink.failures _ _ _ _ (rw (c.deref-3.ensures.value, c.deref-4.ensures.value) at c.in_err-write_takings.ensures))))))

pub returns : goal.returns
returns g c =
    writes_same g.K.Sink.written g.K.Sink.failures _ _ _ _ _ (drawn c.args.picture.now c.args.captions.test.now c.args.captions.settings.now c.args.captions.labels.now _ c.lanes_of-lanes.ensures)
    (writes_after g.K.Sink.written g.K.Sink.failures _ _ _ _ _ _ c.in_ok-write_head.ensures
    (writes_after g.K.Sink.written g.K.Sink.failures _ _ _ _ _ _ c.in_ok-write_rows.ensures
    (writes_after g.K.Sink.written g.K.Sink.failures _ _ _ _ _ _ (rw (c.deref.ensures.value, c.deref-2.ensures.value) at c.in_ok-write_watches.ensures)
    (writes_after g.K.Sink.written g.K.Sink.failures _ _ _ _ _ _ (rw (c.deref-3.ensures.value, c.deref-4.ensures.value) at c.in_ok-write_takings.ensures)
    c.write_legend.ensures))))
