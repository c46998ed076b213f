-- each part is what its call left, up to the one that failed
use Rattle.std.proofs.Common.{◌≡◌, ◌==◌, List, ℕ, false, length}
use Rattle.report_text.proofs.SinkSteps.{fails_first, fails_second, writes_after, writes_error, writes_same}
use Rattle.picture_svg.specs.Bars.{some_statement, statement_line}
use Rattle.picture_svg.proofs.bars.write_statement.Goals as goal

-- a statement that is known has its line
line_is : (statement : List ℕ) (x top : ℕ) → (length statement == 0) ≡ false → some_statement statement x top ≡ statement_line statement x top
line_is statement x top some = rw some

pub returns-in_err-write_pieces : goal.returns-in_err-write_pieces
returns-in_err-write_pieces g c =
    let some : (length c.args.statement.now == 0) ≡ false = cc in
    writes_same g.K.Sink.written g.K.Sink.failures _ _ _ _ _ (line_is c.args.statement.now c.args.x c.args.top some)
    (writes_error g.K.Sink.written g.K.Sink.failures _ _ _ _ c.from_residual.ensures.0
    (fails_first g.K.Sink.written g.K.Sink.failures _ _ _ _ (rw c.line_start.ensures at c.in_err-write_pieces.ensures)))

pub returns-in_err-write_shortened : goal.returns-in_err-write_shortened
returns-in_err-write_shortened g c =
    let some : (length c.args.statement.now == 0) ≡ false = cc in
    writes_same g.K.Sink.written g.K.Sink.failures _ _ _ _ _ (line_is c.args.statement.now c.args.x c.args.top some)
    (writes_error g.K.Sink.written g.K.Sink.failures _ _ _ _ c.from_residual-in_err-write_shortened.ensures.0
    (fails_second g.K.Sink.written g.K.Sink.failures _ _ _ _ _ (rw c.line_start.ensures at c.in_ok-write_pieces.ensures)
    (fails_first g.K.Sink.written g.K.Sink.failures _ _ _ _ c.in_err-write_shortened.ensures)))

pub returns : goal.returns
returns g c =
    let some : (length c.args.statement.now == 0) ≡ false = cc in
    writes_same g.K.Sink.written g.K.Sink.failures _ _ _ _ _ (line_is c.args.statement.now c.args.x c.args.top some)
    (writes_after g.K.Sink.written g.K.Sink.failures _ _ _ _ _ _ (rw c.line_start.ensures at c.in_ok-write_pieces.ensures)
    (writes_after g.K.Sink.written g.K.Sink.failures _ _ _ _ _ _ c.in_ok-write_shortened.ensures
    (rw c.as_bytes.ensures.value at c.write_all.ensures)))
