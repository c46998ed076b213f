-- The place of a variable among those that are given.
use Rattle.std.proofs.Common.{◌≡◌, ◌≤◌, ◌+◌, ◌*◌, ◌^◌, ℕ, Bool, true, false, List, [], ◌∷◌, IsSomeAnd, Option, None}
use Rattle.std.proofs.Common.{Some, arith, bytes_eq, cond, find, length, option_map, refl, slice_get, subst, sym, unwrap_or, ap, ◌∙◌}
use Rattle.std.proofs.lemmas.Option.{same_Some, slice_get_within}
use Rattle.access_types.specs.declared.history.Bytes.{Bytes}
use Rattle.litmus_semantics.specs.Layout as layout
use Rattle.litmus_semantics.specs.Values.{size_of}
use Rattle.litmus_semantics.specs.Layout.{address_of, bytes_at, bytes_of_variable, no_bytes, place_of}
use Rattle.litmus_syntax.specs.declared.program.Contents.TheVariants.{Atomic, Char, Int, Lock, Long, Short}
use Rattle.litmus_syntax.specs.declared.program.Contents.{Contents}
use Rattle.litmus_syntax.specs.declared.program.Variable.{Variable}
use Rattle.prepared_program.specs.program_layout.Places.{AreFit, Suits, is_for, named, places_of}
use Rattle.prepared_program.specs.declared.program_layout.place.Place.{Place}

abbrev addr_of : Option layout.VariablePlace → Option ℕ
addr_of place = option_map (λ p. p.addr) place

abbrev given_addr : Option Place → Option ℕ
given_addr place = option_map (λ p. p.addr) place

-- whichever the first one is
first_is : (place : Place) (later : List Place) (name : List ℕ) (is : Bool) → addr_of (place_of (places_of later) name) ≡ given_addr (find (is_for name) later)
    → addr_of (cond is (Some (record { name = place.name; addr = place.addr })) (place_of (places_of later) name)) ≡ given_addr (cond is (Some place) (find (is_for name) later))
first_is place later name true same = refl
first_is place later name false same = same

-- the first place for a name is that of the list as given
same_place : (places : List Place) (name : List ℕ) → addr_of (place_of (places_of places) name) ≡ given_addr (find (is_for name) places)
same_place [] name = refl
same_place (place ∷ later) name = first_is place later name (bytes_eq place.name name) (same_place later name)

pub placed : (places : List Place) (number : ℕ) (variable : Variable) (place : Place) → find (is_for variable.name) places ≡ Some place
    → address_of (places_of places) number variable ≡ place.addr
placed places number variable place found =
    ap (λ addr. unwrap_or addr (0x10000 + 64 * number)) (same_place places variable.name ∙ ap given_addr found)

pub not_placed : (places : List Place) (number : ℕ) (variable : Variable) → find (is_for variable.name) places ≡ None
    → address_of (places_of places) number variable ≡ 0x10000 + 64 * number
not_placed places number variable found =
    ap (λ addr. unwrap_or addr (0x10000 + 64 * number)) (same_place places variable.name ∙ ap given_addr found)

-- bytes are their address and their number
pub bytes_are : {addr size there : ℕ} (variable : Variable) → addr ≡ there → size ≡ size_of variable.contents
    → ◌≡◌ {A = Bytes} (record { addr = addr; size = size }) (record { addr = there; size = size_of variable.contents })
bytes_are variable same_addr same_size = λ i. record { addr = same_addr i; size = same_size i }

-- a place that suits its variable is at 2^62 or below
low_place : (variable : Option Variable) (addr : ℕ) → IsSomeAnd variable (λ v. Suits v addr) → addr ≤ 2 ^ 62
low_place None addr fit = absurd fit
low_place (Some v) addr fit = fit.low

-- so is the first place that is found
low_first : (is : Bool) (place found : Place) (later : Option Place) → place.addr ≤ 2 ^ 62 → (later ≡ Some found → found.addr ≤ 2 ^ 62)
    → cond is (Some place) later ≡ Some found → found.addr ≤ 2 ^ 62
low_first true place found later low after same = subst (λ (p : Place). p.addr ≤ 2 ^ 62) (same_Some place found same) low
low_first false place found later low after same = after same

low_found : (variables : List Variable) (places : List Place) → AreFit variables places → (name : List ℕ) (found : Place) → find (is_for name) places ≡ Some found
    → found.addr ≤ 2 ^ 62
low_found variables [] fit name found is = cc
low_found variables (place ∷ later) fit name found is =
    low_first (bytes_eq place.name name) place found (find (is_for name) later) (low_place (named variables place.name) place.addr fit.0)
    (λ same. low_found variables later fit.2 name found same) is

-- where the places fit, no variable stands above 2^62
pub low_address : (variables : List Variable) (places : List Place) → AreFit variables places → (number : ℕ) (variable : Variable) → number ≤ 32
    → address_of (places_of places) number variable ≤ 2 ^ 62
low_address variables places fit number variable few = cases (find (is_for variable.name) places) refl where
  cases : (found : Option Place) → find (is_for variable.name) places ≡ found → address_of (places_of places) number variable ≤ 2 ^ 62
  cases None is =
      let low : 0x10000 + 64 * number ≤ 2 ^ 62 = omega arith in
      subst (λ (addr : ℕ). addr ≤ 2 ^ 62) (sym (not_placed places number variable is)) low
  cases (Some place) is =
      subst (λ (addr : ℕ). addr ≤ 2 ^ 62) (sym (placed places number variable place is)) (low_found variables places fit variable.name place is)

-- bytes that stand at 2^62 or below, and are at most 8
abbrev IsLow : Bytes → Type 0
IsLow bytes = (bytes.addr ≤ 2 ^ 62) × (bytes.size ≤ 8)

few_bytes : (contents : Contents) → size_of contents ≤ 8
few_bytes (Char n) = omega arith
few_bytes (Short n) = omega arith
few_bytes (Int n) = omega arith
few_bytes (Long n) = omega arith
few_bytes (Atomic n) = omega arith
few_bytes Lock = omega arith

-- where the places fit, the bytes of each of at most 32 variables stand at 2^62 or below, and are at most 8
pub low_bytes : (variables : List Variable) (places : List Place) → AreFit variables places → length variables ≤ 32 → (number : ℕ)
    → ((bytes_of_variable (places_of places) variables number).addr ≤ 2 ^ 62) × ((bytes_of_variable (places_of places) variables number).size ≤ 8)
low_bytes variables places fit few number = cases (slice_get variables number) refl where
  cases : (found : Option Variable) → slice_get variables number ≡ found
      → ((bytes_of_variable (places_of places) variables number).addr ≤ 2 ^ 62) × ((bytes_of_variable (places_of places) variables number).size ≤ 8)
  cases None is = subst (λ (o : Option Variable). IsLow (unwrap_or (option_map (bytes_at (places_of places) number) o) no_bytes)) (sym is) (omega arith, omega arith)
  cases (Some v) is =
      let there : number ≤ 32 = omega (arith, slice_get_within variables number v is) in
      subst (λ (o : Option Variable). IsLow (unwrap_or (option_map (bytes_at (places_of places) number) o) no_bytes)) (sym is)
      (low_address variables places fit number v there, few_bytes v.contents)
