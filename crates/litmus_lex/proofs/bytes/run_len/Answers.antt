-- Each byte before `len` was found to be of the class, and the one at `len` wasn't.
use Rattle.std.proofs.Common.{◌∙◌, arith, sym}
use Rattle.litmus_lex.proofs.Runs.{run_from_reads}
use Rattle.litmus_lex.proofs.bytes.run_len.Goals as goal

pub returns-else-has-clause-run : goal.returns-else-has-clause-run
returns-else-has-clause-run c =
    run_from_reads _ _ _ c.loop-len.invariant.within c.loop-len.invariant.reads
    (λ _. sym c.has.ensures ∙ c.if-has.false)

pub returns-after-loop-len-clause-run : goal.returns-after-loop-len-clause-run
returns-after-loop-len-clause-run c =
    run_from_reads _ _ _ c.loop-len.invariant.within c.loop-len.invariant.reads
    (λ below. absurd (omega arith))
