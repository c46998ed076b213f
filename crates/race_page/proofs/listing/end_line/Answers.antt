-- What ends the mark that is open, and what ends the line.
use Rattle.std.proofs.Common.{codes, refl}
use Rattle.race_page.specs.Listing.{closing}
use Rattle.race_page.proofs.LineSteps.{both_added, ok_items}
use Rattle.race_page.proofs.listing.end_line.Goals as goal

pub returns : goal.returns
returns c =
    both_added c.extend_from_slice.result _ _ _ (closing c.args.place) (codes "</li>\n") _
    (c.in_ok-add_text.ensures (closing c.args.place) c.closing.ensures) (ok_items c.extend_from_slice.result _ _ _ c.extend_from_slice.ensures.items)
    refl
