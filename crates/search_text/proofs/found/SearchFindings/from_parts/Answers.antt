-- they are added to what is found of no list
use Rattle.std.proofs.Common.{[]}
use Rattle.search_text.proofs.found.SearchFindings.from_parts.Goals as goal

pub returns-clause-finds : goal.returns-clause-finds
returns-clause-finds c = λ lists finds. c.in_ok-join_parts.ensures.finds [] lists c.new-found.ensures.none finds

pub returns-clause-known : goal.returns-clause-known
returns-clause-known c = λ sites are. c.in_ok-join_parts.ensures.known sites (c.new-found.ensures.known sites) are
