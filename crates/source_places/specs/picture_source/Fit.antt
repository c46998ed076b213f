-- Whether the accesses of a trace can be those of the sites of a program.
use Rattle.std.specs.Prelude.{◌==◌, ◌&&◌, ◌||◌, ℕ, Bool, List, None, Option, Some, bytes_eq, count_by, false, map, not}
use Rattle.std.specs.List.{find}
use Rattle.access_types.specs.Kind.{access_words}
use Rattle.access_types.specs.Stamped.{Stamped}
use Rattle.litmus_semantics.specs.declared.site.Site.{Site}
use Rattle.races.specs.declared.placed.PlacedSite.{PlacedSite}
use Rattle.timeline.specs.declared.picture.rows.Mark.{Mark}
use Rattle.timeline.specs.declared.picture.rows.Mark.TheVariants.{Begin, End, Race, Origin}
use Rattle.timeline.specs.declared.picture.rows.Row.{Row}
use Rattle.source_places.specs.declared.picture_source.fit.Standing.{Standing}

-- the access that a row is about: of a report the one that had set its watchpoint up
abbrev pub subject : Mark → Stamped
subject (Begin s) = s
subject (End s) = s
subject (Race setter finder) = setter
subject (Origin setter old new) = setter

-- the access is of the site of this name
abbrev pub is_of : Stamped → PlacedSite → Bool
is_of s placed = (placed.name.task == s.access.task) && (placed.name.site == s.access.site)

-- accesses at the site are told in the same words, and have as many bytes
abbrev pub is_alike : Site → Stamped → Bool
is_alike site s = bytes_eq (access_words site.kind) (access_words s.access.kind) && (site.bytes.size == s.access.size)

-- how an access stands to its site: whether it can be of it, the address of the variable there without a place list,
-- and its own address
abbrev pub standing_at : Option PlacedSite → Stamped → Standing
standing_at None s = record { fits = false; home = 0; addr = 0 }
standing_at (Some placed) s = record { fits = is_alike placed.site s; home = placed.site.bytes.addr; addr = s.access.addr }

abbrev pub standing_of : List PlacedSite → Stamped → Standing
standing_of sites s = standing_at (find (is_of s) sites) s

abbrev pub standings : List PlacedSite → List Row → List Standing
standings sites rows = map (λ row. standing_of sites (subject row.mark)) rows

-- the address of the first access to the variable with this address
abbrev pub addr_in : Option Standing → ℕ
addr_in None = 0
addr_in (Some first) = first.addr

abbrev pub is_at : (home : ℕ) → Standing → Bool
is_at home own = own.home == home

abbrev pub first_addr : List Standing → (home : ℕ) → ℕ
first_addr all home = addr_in (find (is_at home) all)

-- the access can't be of its site, or its address isn't that of the first access to the same variable
abbrev pub strays : List Standing → Standing → Bool
strays all own = not own.fits || not (first_addr all own.home == own.addr)

-- The accesses of these rows can be those of the sites: each is of a site with such accesses, and those to one variable
-- have one address.
abbrev pub fits : List PlacedSite → List Row → Bool
fits sites rows = count_by (strays (standings sites rows)) (standings sites rows) == 0
