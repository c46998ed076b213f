-- What is kept of the accesses of a trace.
use Rattle.std.specs.Prelude.{◌≡◌, ◌≢◌, ◌<◌, ◌+◌, ◌==◌, ◌||◌, ℕ, List, All, Bool, Contains, Some, slice_get}
use Rattle.std.specs.List.{list_any}
use Rattle.access_types.specs.Stamped.{Stamped}
use Rattle.access_types.specs.Ticket.{ticket_number}
use Rattle.report_text.specs.Standing.{HaveOtherStamps}
use Rattle.trace_replay.specs.Table.{value_at}
use Rattle.trace_replay.specs.declared.accesses.Accesses.{Accesses}
use Rattle.trace_replay.specs.declared.table.Table.{Table}

-- the access began or ended at this stamp
abbrev pub has_stamp : ℕ → Stamped → Bool
has_stamp stamp s = (stamp == s.begin) || (stamp == s.end)

-- the ticket is that of this access, which is one of these
pub record IsNamed (all : List Stamped) (ticket : ℕ) (s : Stamped) : Type 0 where
  pub stands : Contains all s
  pub ticket_is : ticket_number s.access ≡ ticket

-- the place of each of these accesses is given by its ticket, as 1 more than it, and no other place is
pub record ArePlaces (all : List Stamped) (places : Table ℕ) : Type 0 where
  pub given : (place : ℕ) (s : Stamped) → slice_get all place ≡ Some s → value_at places (ticket_number s.access) ≡ place + 1
  pub only : (ticket place : ℕ) → value_at places ticket ≡ place + 1
      → (s : Stamped) × (slice_get all place ≡ Some s) × (ticket_number s.access ≡ ticket)

-- these accesses are kept in order, with their places; so are their stamps; and each has bytes
pub record AreKept (all : List Stamped) (kept : Accesses) : Type 0 where
  pub list : kept.list.items ≡ all
  pub places : ArePlaces all kept.places
  pub stamps : (stamp : ℕ) → value_at kept.stamps stamp ≡ list_any (has_stamp stamp) all
  pub have_bytes : All (λ s. 0 < s.access.size) all

-- neither the ticket nor a stamp of the access is that of one of these
pub record IsNew (all : List Stamped) (s : Stamped) : Type 0 where
  pub stamps : All (HaveOtherStamps s) all
  pub name : All (λ t. ticket_number t.access ≢ ticket_number s.access) all
