-- The reasons are those for the verdict.
use Rattle.std.proofs.Common.{◌∙◌, ℕ, List, ap}
use Rattle.std.specs.List.{flat_map}
use Rattle.race_output.specs.Reasons.{texts}
use Rattle.race_page.specs.Pairs.{reason_text, why_text}
use Rattle.race_page.proofs.pairs.why_text.Goals as goal

pub returns : goal.returns
unfolding why_text
returns c =
    c.in_ok-text.ensures
    ∙ ap (λ (reasons : List (List ℕ)). flat_map reason_text reasons) (ap texts c.deref.ensures.value ∙ c.in_ok-reasons.ensures)
