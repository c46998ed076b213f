-- A variable that has bytes stands at a multiple of their number, and so lies in one cell.
use Rattle.std.proofs.Common.{◌≡◌, ◌≢◌, ◌≤◌, ◌∙◌, ◌+◌, ◌*◌, ◌%◌, ◌++◌, ◌==◌, ◌||◌, ◌<◌, ◌⊎◌}
use Rattle.std.proofs.Common.{inl, inr, get_or, ℕ, zero, suc, Bool, true, false, Contains, IsSomeAnd, List, [], ◌∷◌, Option, None, Some}
use Rattle.std.proofs.Common.{ap, arith, bytes_eq, cond, find, fold, option_map, refl, slice_get, subst, sym, length, if◌then◌else◌}
use Rattle.std.proofs.lemmas.Bool.{cases_order, eqb-true}
use Rattle.std.proofs.lemmas.List.Elements.{Contains-append_left, Contains-push}
use Rattle.std.proofs.lemmas.Option.{get_or_from_slice_get, same_Some, slice_get_within}
use Rattle.std.proofs.lemmas.Slice.Eq.{bytes_eq-Decides}
use Rattle.std.specs.List.{list_any}
use Rattle.access_types.specs.declared.history.Bytes.{Bytes}
use Rattle.litmus_semantics.specs.Layout.{address_of, block_of, bytes_at, cells_of, initial_values, with_cell}
use Rattle.litmus_semantics.specs.Values.{size_of}
use Rattle.litmus_syntax.specs.Limits.{HaveOwnNames, IsLock}
use Rattle.litmus_syntax.specs.declared.program.Contents.TheVariants.{Atomic, Char, Int, Lock, Long, Short}
use Rattle.litmus_syntax.specs.declared.program.Contents.{Contents}
use Rattle.litmus_syntax.specs.declared.program.Variable.{Variable}
use Rattle.prepared_program.proofs.program_layout.LayLemmas.{got}
use Rattle.prepared_program.proofs.program_layout.PlaceLemmas.{low_address, not_placed, placed}
use Rattle.prepared_program.specs.program_layout.Aligned.{AreAligned}
use Rattle.prepared_program.specs.program_layout.Cells.{LieInOneCell}
use Rattle.prepared_program.specs.program_layout.Places.{AreFit, IsFit, Suits, is_for, named, places_of}
use Rattle.prepared_program.specs.declared.program_layout.place.Place.{Place}

-- the place that is found is for the name, and fits
found_first : (variables : List Variable) (name : List ℕ) (is : Bool) (place found : Place) (later : Option Place) → bytes_eq place.name name ≡ is → IsFit variables place
    → (later ≡ Some found → (found.name ≡ name) × IsFit variables found) → cond is (Some place) later ≡ Some found → (found.name ≡ name) × IsFit variables found
found_first variables name true place found later named_so fit after same =
    subst (λ (p : Place). (p.name ≡ name) × IsFit variables p) (same_Some place found same) ((bytes_eq-Decides place.name name).0 named_so, fit)
found_first variables name false place found later named_so fit after same = after same

found_fits : (variables : List Variable) (places : List Place) → AreFit variables places → (name : List ℕ) (found : Place) → find (is_for name) places ≡ Some found
    → (found.name ≡ name) × IsFit variables found
found_fits variables [] fit name found is = cc
found_fits variables (place ∷ later) fit name found is =
    found_first variables name (bytes_eq place.name name) place found (find (is_for name) later) refl fit.0
    (λ same. found_fits variables later fit.2 name found same) is

-- the variable that is found stands in the list, and has the name
abbrev StandsNamed : List Variable → List ℕ → Variable → Type 0
StandsNamed variables name v = (j : ℕ) × (slice_get variables j ≡ Some v) × (v.name ≡ name)

named_first : (variable : Variable) (later : List Variable) (name : List ℕ) (is : Bool) (found : Variable) → bytes_eq variable.name name ≡ is
    → (named later name ≡ Some found → StandsNamed later name found) → cond is (Some variable) (named later name) ≡ Some found → StandsNamed (variable ∷ later) name found
named_first variable later name true found named_so after same =
    subst (λ (v : Variable). StandsNamed (variable ∷ later) name v) (same_Some variable found same) (0, refl, (bytes_eq-Decides variable.name name).0 named_so)
named_first variable later name false found named_so after same =
    let there = after same in (suc there.0, there.1, there.2)

named_stands : (variables : List Variable) (name : List ℕ) (found : Variable) → named variables name ≡ Some found → StandsNamed variables name found
named_stands [] name found is = cc
named_stands (variable ∷ later) name found is =
    named_first variable later name (bytes_eq variable.name name) found refl (λ same. named_stands later name found same) is

-- variables of one name are one
same_name : (variables : List Variable) → HaveOwnNames variables → (i j : ℕ) (v w : Variable) → slice_get variables i ≡ Some v
    → slice_get variables j ≡ Some w → v.name ≡ w.name → v ≡ w
same_name variables own i j v w v_there w_there named_so = cases (cases_order i j) where
  v_is : get_or variables i v ≡ v
  v_is = get_or_from_slice_get variables i v v v_there

  w_is : get_or variables j v ≡ w
  w_is = get_or_from_slice_get variables j w v w_there

  cases : (i ≡ j) ⊎ ((i < j) ⊎ (j < i)) → v ≡ w
  cases (inl same) = same_Some v w (sym v_there ∙ ap (slice_get variables) same ∙ w_there)
  cases (inr (inl below)) =
      absurd (own i j v below (slice_get_within variables j w w_there)
      (ap (λ (x : Variable). x.name) v_is ∙ named_so ∙ sym (ap (λ (x : Variable). x.name) w_is)))
  cases (inr (inr below)) =
      absurd (own j i v below (slice_get_within variables i v v_there)
      (ap (λ (x : Variable). x.name) w_is ∙ sym named_so ∙ sym (ap (λ (x : Variable). x.name) v_is)))

-- a place for a variable is a multiple of its size
suits : (variables : List Variable) → HaveOwnNames variables → (number : ℕ) (variable : Variable) → slice_get variables number ≡ Some variable
    → (place : Place) → place.name ≡ variable.name → IsFit variables place → Suits variable place.addr
suits variables own number variable stands place named_so fit = cases (named variables place.name) refl where
  cases : (found : Option Variable) → named variables place.name ≡ found → Suits variable place.addr
  cases None is = absurd (subst (λ (o : Option Variable). IsSomeAnd o (λ (v : Variable). Suits v place.addr)) is fit)
  cases (Some w) is =
      let w_suits : Suits w place.addr = subst (λ (o : Option Variable). IsSomeAnd o (λ (v : Variable). Suits v place.addr)) is fit in
      let there = named_stands variables place.name w is in
      let same : w ≡ variable = same_name variables own there.0 number w variable there.1 stands (there.2 ∙ named_so) in
      subst (λ (v : Variable). Suits v place.addr) same w_suits

default_aligned : (contents : Contents) (number : ℕ) → size_of contents ≢ 0 → (0x10000 + 64 * number) % size_of contents ≡ 0
default_aligned (Char n) number some = omega arith
default_aligned (Short n) number some = omega arith
default_aligned (Int n) number some = omega arith
default_aligned (Long n) number some = omega arith
default_aligned (Atomic n) number some = omega arith
default_aligned Lock number some = absurd (some refl)

aligned : (variables : List Variable) (places : List Place) → AreFit variables places → HaveOwnNames variables → (number : ℕ) (variable : Variable)
    → slice_get variables number ≡ Some variable → size_of variable.contents ≢ 0 → address_of (places_of places) number variable % size_of variable.contents ≡ 0
aligned variables places fit own number variable stands some = cases (find (is_for variable.name) places) refl where
  cases : (found : Option Place) → find (is_for variable.name) places ≡ found → address_of (places_of places) number variable % size_of variable.contents ≡ 0
  cases None is = subst (λ (addr : ℕ). addr % size_of variable.contents ≡ 0) (sym (not_placed places number variable is)) (default_aligned variable.contents number some)
  cases (Some place) is =
      let fits = found_fits variables places fit variable.name place is in
      subst (λ (addr : ℕ). addr % size_of variable.contents ≡ 0) (sym (placed places number variable place is))
      (suits variables own number variable stands place fits.0 fits.1).aligned

has_bytes : (contents : Contents) → ¬ IsLock contents → size_of contents ≢ 0
has_bytes (Char n) not_lock = λ none. cc
has_bytes (Short n) not_lock = λ none. cc
has_bytes (Int n) not_lock = λ none. cc
has_bytes (Long n) not_lock = λ none. cc
has_bytes (Atomic n) not_lock = λ none. cc
has_bytes Lock not_lock = absurd (not_lock tt)

pub all_aligned : (variables : List Variable) (places : List Place) → AreFit variables places → HaveOwnNames variables → length variables ≤ 32
    → AreAligned (places_of places) variables
all_aligned variables places fit own few number variable stands not_lock = record {
  multiple = aligned variables places fit own number variable stands (has_bytes variable.contents not_lock);
  low = low_address variables places fit number variable below;
}
  where
    within : number < length variables
    within = slice_get_within variables number variable stands

    below : number ≤ 32
    below = omega (arith, within, few)

-- bytes at a multiple of their number lie in one block
in_block : (contents : Contents) (addr : ℕ) → size_of contents ≢ 0 → addr % size_of contents ≡ 0 → (block_of addr ≤ addr) × (addr + size_of contents ≤ block_of addr + 8)
in_block (Char n) addr some is = (omega arith, omega arith)
in_block (Short n) addr some is = (omega arith, omega arith)
in_block (Int n) addr some is = (omega arith, omega arith)
in_block (Long n) addr some is = (omega arith, omega arith)
in_block (Atomic n) addr some is = (omega arith, omega arith)
in_block Lock addr some is = absurd (some refl)

-- a cell that is found is there
any_contains : (cells : List ℕ) (cell : ℕ) → list_any (λ other. other == cell) cells ≡ true → Contains cells cell
any_contains [] cell is = cc
any_contains (first ∷ cells) cell is = cases (first == cell) refl (λ any. any_contains cells cell any) is where
  cases : (same : Bool) → (first == cell) ≡ same → (list_any (λ other. other == cell) cells ≡ true → Contains cells cell)
      → (same || list_any (λ other. other == cell) cells) ≡ true → Contains (first ∷ cells) cell
  cases true same after any = (0, omega arith, eqb-true first cell same)
  cases false same after any = let there = after any in (suc there.0, omega (arith, there.1), there.2)

-- the block of bytes is a cell afterwards, and cells stay
with_its_cell : (cells : List ℕ) (value : Bytes × ℕ) → value.0.size ≢ 0 → Contains (with_cell cells value) (block_of value.0.addr)
with_its_cell cells value some = cases (value.0.size == 0) (list_any (λ other. other == block_of value.0.addr) cells) refl refl where
  cases : (none any : Bool) → (value.0.size == 0) ≡ none → list_any (λ other. other == block_of value.0.addr) cells ≡ any
      → Contains (if none || any then cells else cells ++ block_of value.0.addr ∷ []) (block_of value.0.addr)
  cases true any is found = absurd (some (eqb-true value.0.size 0 is))
  cases false true is found = any_contains cells (block_of value.0.addr) found
  cases false false is found = Contains-push cells (block_of value.0.addr)

kept_or_not : (there : Bool) (cells : List ℕ) (new cell : ℕ) → Contains cells cell → Contains (if there then cells else cells ++ new ∷ []) cell
kept_or_not true cells new cell is = is
kept_or_not false cells new cell is = Contains-append_left cells (new ∷ []) cell is

cells_stay : (cells : List ℕ) (values : List (Bytes × ℕ)) (cell : ℕ) → Contains cells cell → Contains (fold with_cell cells values) cell
cells_stay cells [] cell is = is
cells_stay cells (value ∷ values) cell is =
    cells_stay (with_cell cells value) values cell
    (kept_or_not ((value.0.size == 0) || list_any (λ other. other == block_of value.0.addr) cells) cells (block_of value.0.addr) cell is)

has_its_cell : (cells : List ℕ) (values : List (Bytes × ℕ)) (number : ℕ) (value : Bytes × ℕ) → slice_get values number ≡ Some value → value.0.size ≢ 0
    → Contains (fold with_cell cells values) (block_of value.0.addr)
has_its_cell cells [] number value is some = cc
has_its_cell cells (first ∷ values) zero value is some =
    subst (λ (v : Bytes × ℕ). Contains (fold with_cell (with_cell cells first) values) (block_of v.0.addr)) same
    (cells_stay (with_cell cells first) values (block_of first.0.addr) (with_its_cell cells first first_some)) where
      same : first ≡ value
      same = same_Some first value is

      first_some : first.0.size ≢ 0
      first_some none = some (sym (ap (λ (v : Bytes × ℕ). v.0.size) same) ∙ none)
has_its_cell cells (first ∷ values) (suc number) value is some = has_its_cell (with_cell cells first) values number value is some

-- the bytes of a variable that has some lie in one cell
pub in_one_cell : (variables : List Variable) (places : List Place) → AreFit variables places → HaveOwnNames variables → (number : ℕ) (variable : Variable)
    → slice_get variables number ≡ Some variable → size_of variable.contents ≢ 0
    → LieInOneCell (cells_of (places_of places) variables) (bytes_at (places_of places) number variable)
in_one_cell variables places fit own number variable stands some =
    let addr : ℕ = address_of (places_of places) number variable in
    let within = in_block variable.contents addr some (aligned variables places fit own number variable stands some) in
    record {
      cell = block_of addr;
      is_there = there (slice_get (initial_values (places_of places) 0 variables) number) refl;
      low = within.0;
      high = within.1;
    } where
      bytes : Bytes
      bytes = bytes_at (places_of places) number variable

      laid : option_map (λ (l : Bytes × ℕ). l.0) (slice_get (initial_values (places_of places) 0 variables) number) ≡ Some (bytes_at (places_of places) number variable)
      laid = got (places_of places) 0 variables number
          ∙ (ap (λ (o : Option Variable). option_map (bytes_at (places_of places) (number + 0)) o) stands
          ∙ ap (λ (n : ℕ). Some (bytes_at (places_of places) n variable)) (omega arith))

      there : (found : Option (Bytes × ℕ)) → slice_get (initial_values (places_of places) 0 variables) number ≡ found
          → Contains (cells_of (places_of places) variables) (block_of (address_of (places_of places) number variable))
      there None is = none (ap (λ (o : Option (Bytes × ℕ)). option_map (λ (l : Bytes × ℕ). l.0) o) (sym is) ∙ laid) where
        none : None ≡ Some (bytes_at (places_of places) number variable) → Contains (cells_of (places_of places) variables) (block_of (address_of (places_of places) number variable))
        none never = cc
      there (Some value) is =
          let same : value.0 ≡ bytes_at (places_of places) number variable =
          same_Some value.0 (bytes_at (places_of places) number variable) (ap (λ (o : Option (Bytes × ℕ)). option_map (λ (l : Bytes × ℕ). l.0) o) (sym is) ∙ laid) in
          let sized : value.0.size ≢ 0 = λ none. some (sym (ap (λ (b : Bytes). b.size) same) ∙ none) in
          subst (λ (b : Bytes). Contains (cells_of (places_of places) variables) (block_of b.addr)) same
          (has_its_cell [] (initial_values (places_of places) 0 variables) number value is sized)
