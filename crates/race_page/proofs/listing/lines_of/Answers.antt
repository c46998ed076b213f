-- One piece more, and the text that is left.
use Rattle.std.proofs.Common.{◌+◌, ◌++◌, ◌∙◌, ℕ, List, None, ap, append_assoc, arith, drop, get_or}
use Rattle.std.specs.Prelude.{slice_index_or}
use Rattle.race_page.specs.Listing.{lines_from, piece}
use Rattle.race_page.proofs.LineSteps.{lines_step}
use Rattle.race_page.proofs.listing.lines_of.Goals as goal

pub loop-at-preserved : goal.loop-at-preserved
loop-at-preserved c =
    let at = c.loop-at.at in
    let text = c.args.text.now in
    let mark = λ (k : ℕ). slice_index_or c.args.marks.now k None in
    let own = piece c.args.file at c.loop-at.place (mark at) (get_or text at 0) in
    let more = lines_from c.args.file mark c.next_place-place.result (at + 1) (drop (at + 1) text) in
    ap (λ (t : List ℕ). t ++ more) c.in_ok-add_piece.ensures
    ∙ append_assoc c.loop-at.lines.items own more
    ∙ ap (λ (t : List ℕ). c.loop-at.lines.items ++ t)
    (lines_step c.args.file mark c.loop-at.place c.next_place-place.result at text (omega arith) c.next_place-place.ensures)
    ∙ c.loop-at.invariant
