-- Which places are fit for the variables of a program.
use Rattle.std.specs.Prelude.{◌≡◌, ◌≢◌, ◌≤◌, ◌%◌, ◌^◌, ℕ, Bool, List, [], ◌∷◌, Option, IsSomeAnd, None, bytes_eq, find, map}
use Rattle.litmus_semantics.specs.Layout as layout
use Rattle.litmus_semantics.specs.Values.{size_of}
use Rattle.litmus_syntax.specs.declared.program.Variable.{Variable}
use Rattle.prepared_program.specs.declared.program_layout.place.Place.{Place}

-- places as the layout sees them
abbrev pub places_of : List Place → List layout.VariablePlace
places_of places = map (λ place. record { name = place.name; addr = place.addr }) places

-- the place is for the variable of a name
abbrev pub is_for : List ℕ → Place → Bool
is_for name place = bytes_eq place.name name

-- the variable has a name
abbrev pub has_name : List ℕ → Variable → Bool
has_name name variable = bytes_eq variable.name name

-- the variable of a name
abbrev pub named : List Variable → List ℕ → Option Variable
named variables name = find (has_name name) variables

-- the variable has bytes, the address is a multiple of their number, and at most 2^62
pub record Suits (variable : Variable) (addr : ℕ) : Type 0 where
  pub has_bytes : size_of variable.contents ≢ 0
  pub aligned : addr % size_of variable.contents ≡ 0
  pub low : addr ≤ 2 ^ 62

-- the place is for a variable that there is, and suits it
abbrev pub IsFit : List Variable → Place → Type 0
IsFit variables place = IsSomeAnd (named variables place.name) (λ variable. Suits variable place.addr)

-- all places are fit, and no variable is placed twice
abbrev pub AreFit : List Variable → List Place → Type 0
AreFit variables [] = Unit {0}
AreFit variables (place ∷ later) =
    IsFit variables place × (find (is_for place.name) later ≡ None) × AreFit variables later
