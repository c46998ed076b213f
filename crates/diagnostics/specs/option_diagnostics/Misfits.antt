-- Which place doesn't suit the variables of a program, and what is said of it.
use Rattle.std.specs.Prelude.{◌≡◌, ◌==◌, ◌+◌, ◌%◌, ◌^◌, ℕ, List, [], ◌∷◌, Option, None, Some, codes, if◌then◌else◌, nat_lt, slice_get, take}
use Rattle.std.specs.Fmt.{decimal}
use Rattle.std.specs.List.{concat}
use Rattle.litmus_semantics.specs.Values.{size_of}
use Rattle.litmus_syntax.specs.declared.program.Variable.{Variable}
use Rattle.prepared_program.specs.program_layout.Places.{AreFit, named}
use Rattle.prepared_program.specs.declared.program_layout.place.Place.{Place}
use Rattle.program_table.specs.text_pieces.Shown.{shown}

-- what is wrong with an address for a variable of so many bytes: if nothing is, the variable is placed before
abbrev pub wrong_with : (size addr : ℕ) → List ℕ
wrong_with size addr = if size == 0 then codes "is a lock, which has no address"
    else if addr % size == 0 then (if nat_lt (2 ^ 62) addr then codes "stands above 0x4000000000000000" else codes "is placed twice")
    else codes "stands at no multiple of its size"

-- what is wrong with an address for the variable of its name
abbrev pub wrong : Option Variable → (addr : ℕ) → List ℕ
wrong None addr = codes "is no variable of the program"
wrong (Some variable) addr = wrong_with (size_of variable.contents) addr

-- the line that names a place, by its number from 0, and says what is wrong with it
unfoldable pub misfit_line : (variables : List Variable) → (number : ℕ) → Place → List ℕ
misfit_line variables number place = concat
    (codes "item " ∷ decimal (number + 1) ∷ codes ": `" ∷ shown place.name ∷ codes "` "
    ∷ wrong (named variables place.name) place.addr ∷ codes "\n" ∷ [])

-- what is said of the first place that doesn't suit the variables: those before it do, and with it they don't
pub record IsMisfit (variables : List Variable) (places : List Place) (said : List ℕ) : Type 0 where
  pub number : ℕ
  pub place : Place
  pub stands : slice_get places number ≡ Some place
  pub before : AreFit variables (take number places)
  pub unfit : ¬ AreFit variables (take (number + 1) places)
  pub is : said ≡ misfit_line variables number place
