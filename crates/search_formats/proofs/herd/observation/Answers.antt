-- The name, and how often its proposition holds.
use Rattle.std.proofs.Common.{◌∙◌, ◌++◌, ap, append-nil, codes}
use Rattle.search_formats.proofs.Pieces.{two}
use Rattle.search_formats.proofs.herd.observation.Goals as goal
use Rattle.search_text.specs.Write.{observed}

pub returns : goal.returns
returns c =
    c.in_ok-text.ensures
    ∙ ap (λ t. codes "Observation " ++ t) (two _ _ _ _ c.as_bytes.ensures.value (c.deref.ensures.value ∙ c.in_ok-observed.ensures))
    ∙ ap (λ t. codes "Observation " ++ (c.args.name.now ++ t)) (append-nil (observed c.args.held c.args.failed))
