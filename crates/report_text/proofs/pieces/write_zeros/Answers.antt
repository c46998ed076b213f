use Rattle.std.proofs.Common.{◌≡◌, ◌+◌, ◌-◌, ◌++◌, ◌∙◌, ℕ, ap, arith, replicate, subst}
use Rattle.std.proofs.lemmas.List.{replicate-append-replicate}
use Rattle.report_text.specs.Sink.{FailsWithin}
use Rattle.report_text.proofs.SinkSteps.{fails_first, fails_second, writes_error}
use Rattle.report_text.proofs.pieces.write_zeros.Goals as goal

-- zeros, one more, and the others
split : (digit k rest n : ℕ) → k + 1 + rest ≡ n
    → (replicate k digit ++ replicate 1 digit) ++ replicate rest digit ≡ replicate n digit
split digit k rest n e = ap (λ t. t ++ replicate rest digit) (replicate-append-replicate k 1 digit)
    ∙ replicate-append-replicate (k + 1) rest digit ∙ ap (λ m. replicate m digit) e

pub returns-in_err-write_all : goal.returns-in_err-write_all
returns-in_err-write_all g c =
    let rest = c.args.count - (c.loop-counter.counter + 1) in
    let digit : ℕ = 48 in
    writes_error g.K.Sink.written g.K.Sink.failures _ _ _ _ c.from_residual.ensures.0
    (subst (λ t. FailsWithin g.K.Sink.written g.K.Sink.failures t c.args.sink.now c.write_all.new.sink)
    (split digit c.loop-counter.counter rest c.args.count (omega arith))
    (fails_first g.K.Sink.written g.K.Sink.failures _ (replicate rest digit) _ _
    (fails_second g.K.Sink.written g.K.Sink.failures (replicate c.loop-counter.counter digit) (replicate 1 digit) _ _ _
    c.loop-counter.invariant c.in_err-write_all.ensures)))
