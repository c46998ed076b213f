-- what is named is found
use Rattle.std.proofs.Common.{subst, sym}
use Rattle.std.specs.Prelude.{IsSome}
use Rattle.timeline.proofs.picture.Steps.{is_there}
use Rattle.timeline.proofs.picture.Tickets.{is_found}
use Rattle.timeline.proofs.picture.named.Named.the.Goals as goal

pub unwrap-requires : goal.unwrap-requires
unwrap-requires c = is_there c.get.result (subst (λ found. IsSome found) (sym c.get.ensures.value)
    (is_found c.requires.0 c.args.ticket c.requires.1 _ c.requires.3 (c.requires.2.found c.args.ticket)))
