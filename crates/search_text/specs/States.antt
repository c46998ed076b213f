-- Final states, as herd7 writes them.
use Rattle.std.specs.Prelude.{◌++◌, ◌-◌, ◌^◌, ◌∷◌, [], ℕ, List, codes, if◌then◌else◌, nat_lt}
use Rattle.std.specs.Fmt.{decimal}
use Rattle.litmus_syntax.specs.PrintedForm.{name_at, registers_of, variable_name}
use Rattle.litmus_syntax.specs.Tree.{Program}
use Rattle.search_text.specs.Locations.{locations_of}
use Rattle.search_text.specs.declared.locations.Location.{Location}
use Rattle.search_text.specs.declared.locations.Location.TheVariants.{Register, Variable}

-- the name of a location
abbrev pub location_text : Program → Location → List ℕ
location_text program (Register task register) =
    (decimal task ++ codes ":") ++ name_at (registers_of program.tasks task) register
location_text program (Variable variable) = variable_name program.variables variable

-- a value of 64 bits, with its sign
abbrev pub signed_text : ℕ → List ℕ
signed_text value = if nat_lt value (2 ^ 63) then decimal value else codes "-" ++ decimal (2 ^ 64 - value)

-- the value of a location, where registers, by the numbers of their tasks and their own, and variables, by their
-- numbers, have these
abbrev pub value_at : (registers : ℕ → ℕ → ℕ) → (variables : ℕ → ℕ) → Location → ℕ
value_at registers variables (Register task register) = registers task register
value_at registers variables (Variable variable) = variables variable

module _ (program : Program) (registers : ℕ → ℕ → ℕ) (variables : ℕ → ℕ) where
  -- what a location holds
  abbrev pub item_text : Location → List ℕ
  item_text location =
      (location_text program location ++ codes "=") ++ signed_text (value_at registers variables location) ++ codes ";"

  -- what locations hold, each behind a blank
  abbrev pub more_text : List Location → List ℕ
  more_text [] = []
  more_text (location ∷ more) = (codes " " ++ item_text location) ++ more_text more

  -- what locations hold, with blanks between them
  abbrev pub listed_text : List Location → List ℕ
  listed_text [] = []
  listed_text (first ∷ more) = item_text first ++ more_text more

  -- the final state: what the registers and variables hold that the condition names
  abbrev pub state_text : List ℕ
  state_text = listed_text (locations_of program.condition)
