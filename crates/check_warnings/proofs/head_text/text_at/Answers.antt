-- Each turn goes over one byte.
use Rattle.std.proofs.Common.{◌∙◌, arith, refl, slice_index, sym}
use Rattle.check_warnings.proofs.HeadLemmas.{at_step}
use Rattle.check_warnings.specs.declared.head_text.Step.TheVariants.{Text, To}
use Rattle.check_warnings.proofs.head_text.text_at.Goals as goal

pub loop-at-preserved : goal.loop-at-preserved
loop-at-preserved c =
    sym (at_step c.args.text.now c.loop-at.within c.loop-at.at (slice_index c.args.text.now c.loop-at.at) c.byte_at.result
    (To c.in-To.next) (omega arith) refl c.byte_at.ensures c.in-To.ensures)
    ∙ c.loop-at.invariant

pub returns-in-Text-clause-exact : goal.returns-in-Text-clause-exact
returns-in-Text-clause-exact c =
    sym (at_step c.args.text.now c.loop-at.within c.loop-at.at (slice_index c.args.text.now c.loop-at.at) c.byte_at.result
    Text (omega arith) refl c.byte_at.ensures c.in-Text.ensures)
    ∙ c.loop-at.invariant
