-- What follows each `<` of the page is known.
use Rattle.std.proofs.Common.{List, subst, ℕ}
use Rattle.race_page.specs.Tags.{tags}
use Rattle.race_page.proofs.FollowedLemmas.{followed_at}
use Rattle.race_page.proofs.PageTags.{page_tagged}
use Rattle.race_page.proofs.TagLemmas.{IsTagged}
use Rattle.race_page.proofs.laws.law_page_has_its_own_tags.Goals as goal

pub returns : goal.returns
returns c = λ page before after drawn is.
    followed_at 60 tags before after (subst (λ (t : List ℕ). IsTagged t) is (page_tagged page drawn))
