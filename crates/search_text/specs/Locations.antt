-- The registers and variables that a condition names.
use Rattle.std.specs.Prelude.{◌≡◌, ◌==◌, ◌&&◌, ◌++◌, ◌∷◌, [], ℕ, Bool, List, false, fold, if◌then◌else◌}
use Rattle.std.specs.List.{list_any}
use Rattle.litmus_syntax.specs.Tree.{Proposition, always, both, either, negation, never, register_is, variable_is}
use Rattle.search_text.specs.declared.locations.Location.{Location}
use Rattle.search_text.specs.declared.locations.Location.TheVariants.{Register, Variable}

-- what the atoms of a proposition name, in their order
abbrev pub atoms : Proposition → List Location
atoms always = []
atoms never = []
atoms (register_is task register value) = Register task register ∷ []
atoms (variable_is variable value) = Variable variable ∷ []
atoms (negation inner) = atoms inner
atoms (both left right) = atoms left ++ atoms right
atoms (either left right) = atoms left ++ atoms right

-- the two locations are one
abbrev pub is_location : Location → Location → Bool
is_location (Register task register) (Register other number) = (task == other) && (register == number)
is_location (Register task register) (Variable variable) = false
is_location (Variable variable) (Register task register) = false
is_location (Variable variable) (Variable other) = variable == other

-- a location stands last among those that were named, unless it is one of them
abbrev pub named_too : List Location → Location → List Location
named_too before location =
    if list_any (λ other. is_location other location) before then before else before ++ location ∷ []

-- each that the proposition names once, in the order of its atoms
abbrev pub locations_of : Proposition → List Location
locations_of proposition = fold named_too [] (atoms proposition)
