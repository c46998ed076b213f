-- The entries of a map of std, and the finite map that stands for them.
use Rattle.std.proofs.Common.{◌≡◌, ◌∙◌, ◌==◌, ℕ, List, [], ◌∷◌, Option, Some, Bool, true, false, cond, ap}
use Rattle.std.proofs.Common.{refl, subst, sym, Bor, IfSome, None}
use Rattle.std.proofs.lemmas.Bool.{eqb-true}
use Rattle.std.specs.Cmp.{eq_by_cmp_equiv, nat_cmp_total, unsigned_tied}
use Rattle.std.specs.FinMap as map
use Rattle.std.specs.FinMap.{get-from_entries, get-insert, nat_cmp-IsAntisymmetric, same_map}
use Rattle.std.specs.Map.{lookup}
use Rattle.std.specs.Option.{option_copied}
use Rattle.std.specs.Ordering.{eq_by_cmp, nat_cmp}
use Rattle.access_types.specs.Access.{Access}
use Rattle.access_types.specs.Sites.{AccessMap, StandUnderTickets, map_of}
use Rattle.access_types.specs.Ticket.{ticket_number}

-- a look-up in entries, as finite maps say it and as maps of std do
find-lookup : (ticket : ℕ) (entries : List (ℕ × Access)) → map.find nat_cmp ticket entries ≡ lookup (λ key. ticket == key) entries
find-lookup ticket [] = refl
find-lookup ticket (entry ∷ entries) =
    ap (cond (eq_by_cmp nat_cmp ticket entry.0) (Some entry.1)) (find-lookup ticket entries)
    ∙ ap (λ same. cond same (Some entry.1) (lookup (λ key. ticket == key) entries)) (unsigned_tied ticket entry.0)

-- a map of std has under a ticket what the finite map of its entries has
pub get-lookup : (entries : List (ℕ × Access)) (ticket : ℕ) → map.get (map_of entries) ticket ≡ lookup (λ key. ticket == key) entries
get-lookup entries ticket =
    get-from_entries nat_cmp_total entries ticket ∙ find-lookup ticket entries

-- a map of std that has one entry more is the finite map with one entry more
pub from_entries-insert : (old new : List (ℕ × Access)) (ticket : ℕ) (access : Access)
    → ((key : ℕ) → lookup (λ other. key == other) new ≡ cond (ticket == key) (Some access) (lookup (λ other. key == other) old))
    → map_of new ≡ map.insert (map_of old) ticket access
from_entries-insert old new ticket access updates =
    same_map nat_cmp_total nat_cmp-IsAntisymmetric _ _ (λ key.
    get-lookup new key ∙ updates key
    ∙ ap (λ same. cond same (Some access) (lookup (λ other. key == other) old))
    (sym (unsigned_tied ticket key) ∙ (eq_by_cmp_equiv nat_cmp_total).symm ticket key)
    ∙ ap (cond (eq_by_cmp nat_cmp key ticket) (Some access)) (sym (get-lookup old key))
    ∙ sym (get-insert nat_cmp_total (map_of old) ticket access key))

-- no entry is under a wrong ticket where there is none
pub stand_under_tickets-empty : (entries : List (ℕ × Access)) → entries ≡ []
    → StandUnderTickets (map_of entries)
stand_under_tickets-empty entries none ticket =
    subst (λ found. IfSome found (λ access. ticket_number access ≡ ticket))
    (sym (get-lookup entries ticket ∙ ap (lookup (λ key. ticket == key)) none)) tt

-- what is found where one entry more was looked at
found_first : (same : Bool) (access : Access) (rest : Option Access) (ticket : ℕ)
    → (same ≡ true → ticket_number access ≡ ticket)
    → IfSome rest (λ other. ticket_number other ≡ ticket)
    → IfSome (cond same (Some access) rest) (λ other. ticket_number other ≡ ticket)
found_first true access rest ticket named others = named refl
found_first false access rest ticket named others = others

-- an access that is added under its ticket leaves all of them under theirs
pub stand_under_tickets-insert : (sites : AccessMap) (access : Access) → StandUnderTickets sites
    → StandUnderTickets (map.insert sites (ticket_number access) access)
stand_under_tickets-insert sites access named ticket =
    subst (λ found. IfSome found (λ other. ticket_number other ≡ ticket))
    (sym (get-insert nat_cmp_total sites (ticket_number access) access ticket))
    (found_first _ access (map.get sites ticket) ticket
    (λ same. sym (eqb-true ticket _ (sym (unsigned_tied ticket _) ∙ same))) (named ticket))

-- what holds of the access behind a reference that was found
pub IfSome-option_copied : (P : Access → Type 0) (found : Option (Bor Access))
    → IfSome (option_copied found) P → IfSome found (λ access. P access.now)
IfSome-option_copied P None holds = holds
IfSome-option_copied P (Some access) holds = holds
