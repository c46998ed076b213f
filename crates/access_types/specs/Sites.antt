-- The accesses of a program by their tickets, each under its own.
use Rattle.std.specs.Prelude.{◌≡◌, ℕ, List, IfSome}
use Rattle.std.specs.Ordering.{nat_cmp}
use Rattle.std.specs.FinMap as map
use Rattle.access_types.specs.Access.{Access}
use Rattle.access_types.specs.Ticket.{ticket_number}

-- the accesses of a program: a finite map by ticket
abbrev pub AccessMap : Type 0
AccessMap = map.FinMap nat_cmp Access

-- the map that has these accesses, each beside its ticket
abbrev pub map_of : List (ℕ × Access) → AccessMap
map_of entries = map.from_entries entries

-- what stands under a ticket is an access that has it
abbrev pub StandUnderTickets : AccessMap → Type 0
StandUnderTickets sites =
    (ticket : ℕ) → IfSome (map.get sites ticket) (λ access. ticket_number access ≡ ticket)
