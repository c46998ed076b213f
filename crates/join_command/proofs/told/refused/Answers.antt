-- the line is told
use Rattle.std.proofs.Common.{◌≡◌, ◌∙◌, List, ap, inl, inr, subst, ℕ}
use Rattle.join_command.proofs.JoinLemmas.{said_so}
use Rattle.join_command.specs.Told.{IsUnjoined, line_on}
use Rattle.join_command.proofs.told.refused.Goals as goal

pub returns : goal.returns
returns c =
    let name = c.args.name.now in
    elim (said_so (λ (text : List ℕ). text ≡ line_on name c.as_bytes.result.now) c.line_on.result c.said.result c.line_on.ensures c.said.ensures) [
      | inl told ↦ inl (subst (λ (text : List ℕ). IsUnjoined text c.said.result)
          (told.1 ∙ ap (λ (why : List ℕ). line_on name why) c.as_bytes.ensures.value) told.2)
      | inr out ↦ inr out
    ]
