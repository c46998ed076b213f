-- the later ones are added as plain data
use Rattle.std.proofs.Common.{subst, sym}
use Rattle.search_text.specs.SearchFindings.{AreKnown, Finds}
use Rattle.search_text.proofs.found.SearchFindings.join.Goals as goal

pub returns-clause-finds : goal.returns-clause-finds
returns-clause-finds c = λ lists more first second.
    c.in_ok-join_parts.ensures.finds lists more first (subst (Finds more) (sym c.in_ok-later.ensures) second)

pub returns-clause-known : goal.returns-clause-known
returns-clause-known c = λ sites first second.
    c.in_ok-join_parts.ensures.known sites first (subst (AreKnown sites) (sym c.in_ok-later.ensures) second)
