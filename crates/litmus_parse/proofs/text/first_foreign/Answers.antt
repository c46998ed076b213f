-- The loop stops at the first byte that no text has, or at the end.
use Rattle.std.proofs.Common.{◌∙◌, below_more, sym}
use Rattle.std.proofs.lemmas.Bool.{false≢true}
use Rattle.litmus_parse.proofs.Foreign.{all_there}
use Rattle.litmus_parse.proofs.text.first_foreign.Goals as goal

pub returns-then-not-is_text_byte-clause-found : goal.returns-then-not-is_text_byte-clause-found
returns-then-not-is_text_byte-clause-found c = record {
  within = c.loop-at-test.true;
  foreign = λ has. false≢true (sym c.if-not-is_text_byte.true ∙ c.is_text_byte.ensures.1 has);
  others = c.loop-at.invariant;
}

pub loop-at-preserved : goal.loop-at-preserved
loop-at-preserved c = below_more _ _ c.loop-at.invariant (c.is_text_byte.ensures.0 c.if-not-is_text_byte.false)

pub returns-clause-none : goal.returns-clause-none
returns-clause-none c = all_there c.args.text.now c.loop-at.at c.loop-at-test.false c.loop-at.invariant
