-- The two parts, and a blank line.
use Rattle.std.proofs.Common.{◌∙◌, codes, refl}
use Rattle.search_formats.proofs.Pieces.{three}
use Rattle.search_formats.proofs.herd.herd_text.Goals as goal
use Rattle.search_formats.specs.Herd.{herd_text}

pub returns : goal.returns
unfolding herd_text
returns c =
    c.in_ok-text.ensures
    ∙ three _ _ (codes "\n") _ _ (codes "\n") (c.deref.ensures.value ∙ c.in_ok-front.ensures) (c.deref-2.ensures.value ∙ c.in_ok-back.ensures) refl
