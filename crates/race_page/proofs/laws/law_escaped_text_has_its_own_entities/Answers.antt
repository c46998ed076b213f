-- What follows each `&` of the text is known.
use Rattle.std.proofs.Common.{◌≡◌, ℕ, List, subst, true}
use Rattle.race_page.specs.Escape.{entities}
use Rattle.race_page.specs.Followed.{followed}
use Rattle.race_page.proofs.EscapeLemmas.{escaped_entities}
use Rattle.race_page.proofs.FollowedLemmas.{followed_at}
use Rattle.race_page.proofs.laws.law_escaped_text_has_its_own_entities.Goals as goal

pub returns : goal.returns
returns c = λ text before after small is.
    followed_at 38 entities before after
    (subst (λ (t : List ℕ). followed 38 entities t ≡ true) is (escaped_entities text small))
