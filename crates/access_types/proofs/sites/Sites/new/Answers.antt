-- no entry stands under a wrong ticket where there is none
use Rattle.access_types.proofs.SiteEntries.{stand_under_tickets-empty}
use Rattle.access_types.proofs.sites.Sites.new.Goals as goal

pub invariant_of-result : goal.invariant_of-result
invariant_of-result c = stand_under_tickets-empty _ c.new.ensures.empty
