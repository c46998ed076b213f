-- The counts, one behind the other.
use Rattle.std.proofs.Common.{◌∙◌}
use Rattle.search_formats.proofs.Pieces.{three}
use Rattle.search_formats.proofs.several.ended_counts.Goals as goal
use Rattle.search_formats.specs.Several.{ended_counts}

pub returns : goal.returns
unfolding ended_counts
returns c =
    c.in_ok-text.ensures
    ∙ three _ _ _ _ _ _ (c.deref.ensures.value ∙ c.in_ok-clean.ensures) (c.deref-2.ensures.value ∙ c.in_ok-reported.ensures)
    (c.deref-3.ensures.value ∙ c.in_ok-refused.ensures)
