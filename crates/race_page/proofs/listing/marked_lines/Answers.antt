-- The marks are those of the pairs.
use Rattle.std.proofs.Common.{◌∙◌, ℕ, List, None, Option, ap, arith}
use Rattle.std.specs.Prelude.{slice_index_or}
use Rattle.race_output.specs.declared.words.Said.{Said}
use Rattle.race_page.specs.Listing.{lines_from}
use Rattle.race_page.specs.Marks.{mark_at}
use Rattle.race_page.specs.declared.listing.Place.TheVariants.{Between}
use Rattle.race_page.proofs.LineSteps.{lines_same}
use Rattle.race_page.proofs.listing.marked_lines.Goals as goal

pub returns : goal.returns
returns c =
    let marks = c.in_ok-marks.marks.items in
    let text = c.args.text.now in
    c.in_ok-lines.ensures
    ∙ (ap (λ (all : List (Option Said)). lines_from c.args.file (λ (at : ℕ). slice_index_or all at None) Between 0 text)
    c.deref.ensures.value
    ∙ lines_same c.args.file (λ (at : ℕ). slice_index_or marks at None) (mark_at c.args.pairs.now) Between 0 text
    (λ k low high. c.in_ok-marks.ensures.each k (omega (arith, high))))
