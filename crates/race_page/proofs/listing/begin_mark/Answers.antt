-- What ends the mark that is open, and what begins the other.
use Rattle.std.proofs.Common.{ap, sym}
use Rattle.race_page.specs.Listing.{closing, mark_begin, opening}
use Rattle.race_page.proofs.LineSteps.{both_added}
use Rattle.race_page.proofs.listing.begin_mark.Goals as goal

pub returns : goal.returns
returns c =
    let own = closing c.args.place in
    let begin = mark_begin c.args.file c.args.at c.in-Some.said in
    both_added c.add_text-2.result _ _ _ own begin _ (c.in_ok-add_text.ensures own c.closing.ensures)
    (c.add_text-2.ensures begin c.mark_begin.ensures) (sym (ap (opening c.args.file c.args.at c.args.place) c.in-Some.is))
