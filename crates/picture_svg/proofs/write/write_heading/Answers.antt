-- a task with accesses has a lane, and one without has none
use Rattle.std.proofs.Common.{◌≡◌, ◌==◌, ◌∙◌, ap, false, length, sym}
use Rattle.std.specs.Prelude.{vec_len}
use Rattle.report_text.proofs.SinkSteps.{writes_same}
use Rattle.picture_svg.proofs.write.write_heading.Goals as goal

pub returns : goal.returns
returns g c =
    let there : (vec_len c.args.column.now.begins == 0) ≡ false = cc in
    let some : (length c.args.column.now.begins.items == 0) ≡ false = ap (λ n. n == 0) (sym c.args.column.now.begins.ok.0) ∙ there in
    writes_same g.K.Sink.written g.K.Sink.failures _ _ _ _ _ (rw (some, c.start-x.ensures)) c.write_pieces.ensures
