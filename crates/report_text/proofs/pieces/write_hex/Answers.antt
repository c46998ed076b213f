-- zeros up to the width, and then the digits
use Rattle.std.proofs.Common.{◌≡◌, ◌-◌, ◌++◌, ◌∙◌, ◌≤◌, ℕ, List, ap, arith, drop, false, length, length-drop, replicate, sym, take}
use Rattle.std.proofs.Math.Seq.{take-length}
use Rattle.std.specs.Fmt.{digits}
use Rattle.access_types.specs.ReportText.{hex}
use Rattle.report_text.proofs.HexDigits.{hex_is}
use Rattle.report_text.proofs.SinkSteps.{fails_first, writes_after, writes_error, writes_same}
use Rattle.report_text.proofs.pieces.write_hex.Goals as goal

-- the zeros and the digits that stand at the end of a buffer
pieces_are : (width n start pad : ℕ) (buffer : List ℕ) → length buffer ≡ 16 → start ≤ 16
    → pad ≡ width - (16 - start) → drop start buffer ≡ digits 16 false n
    → replicate pad 48 ++ take (16 - start) (drop start buffer) ≡ hex width n
pieces_are width n start pad buffer long within is e =
    let rest : length (drop start buffer) ≡ 16 - start = omega (arith, length-drop start buffer) in
    let short : length (digits 16 false n) ≡ 16 - start = ap length (sym e) ∙ rest in
    let whole : take (16 - start) (drop start buffer) ≡ drop start buffer =
    ap (λ k. take k (drop start buffer)) (sym rest) ∙ take-length (drop start buffer) in
    rw (whole, is, e, hex_is width n, short)

pub returns-in_err-write_zeros : goal.returns-in_err-write_zeros
returns-in_err-write_zeros g c =
    let h = c.hex_digits-start in
    writes_same g.K.Sink.written g.K.Sink.failures _ _ _ _ _
    (pieces_are c.args.width c.args.number h.result c.saturating_sub.result h.new.buffer
    h.array_long h.ensures.within c.saturating_sub.ensures h.ensures.digits)
    (writes_error g.K.Sink.written g.K.Sink.failures _ _ _ _ c.from_residual.ensures.0
    (fails_first g.K.Sink.written g.K.Sink.failures _ _ _ _ c.in_err-write_zeros.ensures))

pub returns : goal.returns
returns g c =
    let h = c.hex_digits-start in
    writes_same g.K.Sink.written g.K.Sink.failures _ _ _ _ _
    (pieces_are c.args.width c.args.number h.result c.saturating_sub.result h.new.buffer
    h.array_long h.ensures.within c.saturating_sub.ensures h.ensures.digits)
    (writes_after g.K.Sink.written g.K.Sink.failures _ _ _ _ _ _ c.in_ok-write_zeros.ensures c.write_all.ensures)
