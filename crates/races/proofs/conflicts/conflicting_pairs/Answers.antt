-- The pairs of all sites.
use Rattle.std.proofs.Common.{[], List, subst}
use Rattle.prepared_program.specs.program_sites.Prepared.{sites_in}
use Rattle.races.proofs.RunLemmas.{are_conflicts}
use Rattle.races.specs.Lists.{AddsInOrder}
use Rattle.races.specs.Pairs.{run_with}
use Rattle.races.specs.Placed.{ComesBefore, IsPairAmong}
use Rattle.races.specs.declared.placed.PlacedSite.{PlacedSite}
use Rattle.races.proofs.conflicts.conflicting_pairs.Goals as goal

pub returns-clause-pairs : goal.returns-clause-pairs
returns-clause-pairs c settings prepared =
    are_conflicts (run_with c.args.program.now settings (sites_in c.args.prepared.now)) c.in_ok-sites.sites.items c.add_pairs.new.pairs.items
    (c.in_ok-sites.ensures.sites settings prepared)
    (subst (λ (xs : List PlacedSite). AddsInOrder ComesBefore [] c.add_pairs.new.pairs.items (IsPairAmong xs)) c.as_slice.ensures.value
    c.in_ok-add_pairs.ensures)
