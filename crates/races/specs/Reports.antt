-- What reports say of sites.
use Rattle.std.specs.Prelude.{◌≡◌, ◌<◌, ℕ, if◌then◌else◌, nat_lt}
use Rattle.access_types.specs.Ticket.{site_in, task_in}
use Rattle.access_types.specs.declared.report.Report.{Report}
use Rattle.access_types.specs.declared.report.Report.TheVariants as reports
use Rattle.races.specs.declared.pair.SiteName.{SiteName}
use Rattle.races.specs.declared.pair.SitePair.{SitePair}
use Rattle.races.specs.declared.report.SiteReport.{SiteReport}
use Rattle.races.specs.declared.report.SiteReport.TheVariants as said

-- the site of the access that a ticket names
abbrev pub ticket_site : ℕ → SiteName
ticket_site ticket = record { task = task_in ticket; site = site_in ticket }

-- the pair of two sites, that of the lower task first
abbrev pub in_order : SiteName → SiteName → SitePair
in_order one other =
    if nat_lt other.task one.task then record { first = other; second = one } else record { first = one; second = other }

-- the report says this of sites: it is of accesses at the two, or of unknown origin and names an access at the site
abbrev pub Says : Report → SiteReport → Type 0
Says (reports.Two setter finder seen) (said.Two pair) =
    (0 < setter) × (0 < finder) × (pair ≡ in_order (ticket_site setter) (ticket_site finder))
Says (reports.Unknown setter old new) (said.Unknown site) = (0 < setter) × (site ≡ ticket_site setter)
Says report other = ⊥
