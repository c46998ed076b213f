-- The counts, one behind the other.
use Rattle.std.proofs.Common.{◌∙◌, ℕ, ap, codes, refl}
use Rattle.search_formats.proofs.Pieces.{four}
use Rattle.search_formats.proofs.several.last_line.Goals as goal
use Rattle.search_formats.specs.Several.{counted, last_line}

pub returns : goal.returns
unfolding last_line
returns c =
    c.in_ok-text.ensures
    ∙ four _ _ _ (codes "\n") _ _ _ (codes "\n")
    (c.deref.ensures.value ∙ (c.in_ok-files.ensures ∙ ap (λ (files : ℕ). counted files (codes " files: ")) c.files_in.ensures))
    (c.deref-2.ensures.value ∙ c.in_ok-ended.ensures) (c.deref-3.ensures.value ∙ c.in_ok-stopped.ensures) refl
