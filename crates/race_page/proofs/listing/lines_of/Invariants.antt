-- The lines so far, and what is left of the text, are all lines.
use Rattle.std.proofs.Common.{◌≡◌, ◌++◌, ℕ, None, drop}
use Rattle.std.specs.Prelude.{slice_index_or}
use Rattle.race_page.specs.Listing as spec
use Rattle.race_page.specs.declared.listing.Place.TheVariants.{Between}
use Rattle.race_page.proofs.listing.lines_of.Given as goal

abbrev pub invariant-loop-at : goal.invariant-loop-at
invariant-loop-at l =
    l.lines.items
    ++ spec.lines_from l.file (λ (at : ℕ). slice_index_or l.marks at None) l.place l.at (drop l.at l.text)
    ≡ spec.lines_from l.file (λ (at : ℕ). slice_index_or l.marks at None) Between 0 l.text
