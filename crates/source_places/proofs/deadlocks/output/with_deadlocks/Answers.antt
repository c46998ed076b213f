-- The pieces, one behind the other.
use Rattle.std.proofs.Common.{◌∙◌, inr}
use Rattle.std.proofs.lemmas.Result.{IfOk-weaker}
use Rattle.source_places.proofs.deadlocks.OutputLemmas.{pieces}
use Rattle.source_places.proofs.deadlocks.output.with_deadlocks.Goals as goal

pub returns : goal.returns
returns c =
    let output = c.args.output.now in
    let end = c.line_end-end.result in
    IfOk-weaker c.joined.result _ _
    (λ found is. inr (record {
      start = c.in-Some.start;
      end = end;
      begins = c.in-Some.ensures.1;
      first = c.in-Some.ensures.2;
      ends = c.line_end-end.ensures;
      said = c.in_ok-said.said.items;
      said_are = c.in_ok-said.ensures;
      found_is = is ∙ pieces output c.deref.result.now c.in_ok-said.said.items end c.min-behind.result c.deref.ensures.value
          c.min-behind.ensures;
    }))
    c.joined.ensures
