-- each part is what its call left, up to the one that failed
use Rattle.std.proofs.Common.{List, subst, sym}
use Rattle.std.specs.Prelude.{All}
use Rattle.timeline.specs.picture.Running.{IsInOrder}
use Rattle.timeline.specs.declared.picture.columns.Column.{Column}
use Rattle.report_text.proofs.SinkSteps.{fails_first, fails_second, writes_after, writes_error}
use Rattle.picture_text.proofs.write.write_detailed_picture.Goals as goal

pub write_rows-requires : goal.write_rows-requires
write_rows-requires g c = subst (λ (columns : List Column). All IsInOrder columns) (sym c.deref-2.ensures.value) c.requires.columns_rise

pub returns-in_err-write_head : goal.returns-in_err-write_head
returns-in_err-write_head g c =
    writes_error g.K.Sink.written g.K.Sink.failures _ _ _ _ c.from_residual.ensures.0
    (fails_first g.K.Sink.written g.K.Sink.failures _ _ _ _ (rw c.deref.ensures.value at c.in_err-write_head.ensures))

pub returns-in_err-write_rows : goal.returns-in_err-write_rows
returns-in_err-write_rows g c =
    writes_error g.K.Sink.written g.K.Sink.failures _ _ _ _ c.from_residual-in_err-write_rows.ensures.0
    (fails_second g.K.Sink.written g.K.Sink.failures _ _ _ _ _ (rw c.deref.ensures.value at c.in_ok-write_head.ensures)
    (fails_first g.K.Sink.written g.K.Sink.failures _ _ _ _ (rw (c.deref-2.ensures.value, c.deref-3.ensures.value) at c.in_err-write_rows.ensures)))

pub returns-in_err-write_gap : goal.returns-in_err-write_gap
returns-in_err-write_gap g c =
    writes_error g.K.Sink.written g.K.Sink.failures _ _ _ _ c.from_residual-in_err-write_gap.ensures.0
    (fails_second g.K.Sink.written g.K.Sink.failures _ _ _ _ _ (rw c.deref.ensures.value at c.in_ok-write_head.ensures)
    (fails_second g.K.Sink.written g.K.Sink.failures _ _ _ _ _ (rw (c.deref-2.ensures.value, c.deref-3.ensures.value) at c.in_ok-write_rows.ensures)
    (fails_first g.K.Sink.written g.K.Sink.failures _ _ _ _ (rw c.deref-4.ensures.value at c.in_err-write_gap.ensures))))

pub returns-in_err-write_watches : goal.returns-in_err-write_watches
returns-in_err-write_watches g c =
    writes_error g.K.Sink.written g.K.Sink.failures _ _ _ _ c.from_residual-in_err-write_watches.ensures.0
    (fails_second g.K.Sink.written g.K.Sink.failures _ _ _ _ _ (rw c.deref.ensures.value at c.in_ok-write_head.ensures)
    (fails_second g.K.Sink.written g.K.Sink.failures _ _ _ _ _ (rw (c.deref-2.ensures.value, c.deref-3.ensures.value) at c.in_ok-write_rows.ensures)
    (fails_second g.K.Sink.written g.K.Sink.failures _ _ _ _ _ (rw c.deref-4.ensures.value at c.in_ok-write_gap.ensures)
    (fails_first g.K.Sink.written g.K.Sink.failures _ _ _ _ (rw c.deref-5.ensures.value at c.in_err-write_watches.ensures)))))

pub returns : goal.returns
returns g c =
    writes_after g.K.Sink.written g.K.Sink.failures _ _ _ _ _ _ (rw c.deref.ensures.value at c.in_ok-write_head.ensures)
    (writes_after g.K.Sink.written g.K.Sink.failures _ _ _ _ _ _ (rw (c.deref-2.ensures.value, c.deref-3.ensures.value) at c.in_ok-write_rows.ensures)
    (writes_after g.K.Sink.written g.K.Sink.failures _ _ _ _ _ _ (rw c.deref-4.ensures.value at c.in_ok-write_gap.ensures)
    (writes_after g.K.Sink.written g.K.Sink.failures _ _ _ _ _ _ (rw c.deref-5.ensures.value at c.in_ok-write_watches.ensures)
    (rw c.deref-6.ensures.value at c.write_takings.ensures))))
