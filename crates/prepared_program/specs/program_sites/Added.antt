-- How accesses are added to a map, site by site and task by task.
use Rattle.std.specs.Prelude.{◌≡◌, ◌<◌, ◌≤◌, ◌+◌, ◌*◌, ◌^◌, ◌⊎◌, ℕ, List, Some, slice_get}
use Rattle.std.specs.FinMap as map
use Rattle.access_types.specs.Access.{Access, proper_mask}
use Rattle.access_types.specs.Sites.{AccessMap}
use Rattle.access_types.specs.Ticket.{ticket_number}
use Rattle.litmus_semantics.specs.TextSites.{FitsTickets, access_at}
use Rattle.litmus_semantics.specs.declared.site.Site.{Site}

-- the new map has what the old one has, these accesses under their tickets, and nothing else
pub record Adds (old new : AccessMap) (These : Access → Type 0) : Type 0 where
  pub kept : (ticket : ℕ) (a : Access) → map.get old ticket ≡ Some a → map.get new ticket ≡ Some a
  pub added : (a : Access) → These a → map.get new (ticket_number a) ≡ Some a
  pub each : (ticket : ℕ) (a : Access) → map.get new ticket ≡ Some a
      → (map.get old ticket ≡ Some a) ⊎ (These a × (ticket_number a ≡ ticket))

-- what the map has stands under tickets below this
abbrev pub AllBelow : AccessMap → ℕ → Type 0
AllBelow sites limit = (ticket : ℕ) (a : Access) → map.get sites ticket ≡ Some a → ticket < limit

-- the ticket of a task's first access at a site
abbrev pub first_ticket : ℕ → ℕ → ℕ
first_ticket task number = 1 + task * 65536 + number * 256

-- the access is one of the task at this site, by its number, of a repetition that it can have
abbrev pub IsRepetition : ℕ → ℕ → Site → Access → Type 0
IsRepetition task number site a = (a.rep < site.times) × (a ≡ access_at task number site a.rep)

-- the access is one of the task at one of these sites
abbrev pub IsAt : ℕ → List Site → Access → Type 0
IsAt task sites a =
    (site : Site) × (slice_get sites a.site ≡ Some site) × IsRepetition task a.site site a

-- an access can be made of the site: its bytes end at 2^63 or below, and no mask is without a bit
pub record IsProper (site : Site) : Type 0 where
  pub range : site.bytes.addr + site.bytes.size ≤ 2 ^ 63
  pub mask : proper_mask site.mask ≡ site.mask

-- accesses can be made of the sites, and have tickets of their own
pub record HaveAccesses (sites : List Site) : Type 0 where
  pub tickets : FitsTickets sites
  pub proper : (number : ℕ) (site : Site) → slice_get sites number ≡ Some site → IsProper site
