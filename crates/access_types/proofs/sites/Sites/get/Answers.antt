-- a look-up in std's map is one in the finite map of its entries
use Rattle.std.proofs.Common.{◌≡◌, ◌∙◌, ap, subst, sym, IfSome}
use Rattle.std.specs.FinMap as map
use Rattle.access_types.specs.Ticket.{ticket_number}
use Rattle.access_types.proofs.SiteEntries.{IfSome-option_copied, get-lookup}
use Rattle.access_types.proofs.sites.Sites.get.Goals as goal

pub returns-clause-access : goal.returns-clause-access
returns-clause-access c =
    c.get.ensures.value ∙ sym (get-lookup _ c.args.ticket)
    ∙ ap (λ sites. map.get sites c.args.ticket) c.self.view_is

pub returns-clause-named : goal.returns-clause-named
returns-clause-named c =
    IfSome-option_copied (λ access. ticket_number access ≡ c.args.ticket) c.get.result
    (subst (λ found. IfSome found (λ access. ticket_number access ≡ c.args.ticket))
    (get-lookup _ c.args.ticket ∙ sym c.get.ensures.value) (c.self.invariant c.args.ticket))
