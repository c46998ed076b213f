-- the entry goes in under the ticket of its own access
use Rattle.std.proofs.Common.{◌≡◌, ◌∙◌, ap, subst, sym}
use Rattle.std.specs.FinMap as map
use Rattle.access_types.specs.Sites.{StandUnderTickets, map_of}
use Rattle.access_types.specs.Ticket.{ticket_number}
use Rattle.access_types.proofs.SiteEntries.{from_entries-insert, stand_under_tickets-insert}
use Rattle.access_types.proofs.sites.Sites.add.Goals as goal

-- the entries after an insertion that succeeded
inserted : (c : goal.In_ok-insert)
    → map_of c.insert.new.self.entries
    ≡ map.insert (map_of c.self.inside.accesses.entries)
    (ticket_number c.args.access.now) c.args.access.now
inserted c =
    from_entries-insert c.self.inside.accesses.entries c.insert.new.self.entries
    c.ticket.result c.args.access.now c.in_ok-insert.ensures.updates.0
    ∙ ap
    (λ ticket. map.insert
    (map_of c.self.inside.accesses.entries) ticket c.args.access.now) c.ticket.ensures.value

pub returns-clause-added : goal.returns-clause-added
returns-clause-added c =
    inserted c ∙ ap
    (λ sites. map.insert sites (ticket_number c.args.access.now) c.args.access.now) c.self.view_is

pub invariant_of-self-2 : goal.invariant_of-self-2
invariant_of-self-2 c =
    subst StandUnderTickets (sym (inserted c))
    (stand_under_tickets-insert _ c.args.access.now c.self.invariant)
