-- The variables that are accessed at sites.
use Rattle.std.specs.Prelude.{◌==◌, ◌&&◌, ℕ, suc, Bool, List, [], ◌∷◌, None, Option, Some, codes, if◌then◌else◌, length, nat_lt, slice_get}
use Rattle.std.specs.List.{concat}
use Rattle.access_types.specs.declared.history.Bytes.{Bytes}
use Rattle.litmus_semantics.specs.Layout.{VariablePlace, bytes_of_variable}
use Rattle.litmus_syntax.specs.declared.program.Variable.{Variable}
use Rattle.program_table.specs.text_pieces.Shown.{cut}

-- the first number, from one on, that passes, where there are these variables; the number behind them where none does
abbrev pub first_from : (ℕ → Bool) → ℕ → List Variable → ℕ
first_from test number [] = number
first_from test number (variable ∷ more) = if test number then number else first_from test (suc number) more

-- the two have the same bytes
abbrev pub is_same : Bytes → Bytes → Bool
is_same own bytes = (own.addr == bytes.addr) && (own.size == bytes.size)

-- the number of the first variable with these bytes
abbrev pub first_with : List VariablePlace → List Variable → Bytes → ℕ
first_with places variables bytes = first_from (λ number. is_same (bytes_of_variable places variables number) bytes) 0 variables

-- the number of the first variable at an address
abbrev pub first_at : List VariablePlace → List Variable → ℕ → ℕ
first_at places variables addr = first_from (λ number. (bytes_of_variable places variables number).addr == addr) 0 variables

-- the first with these bytes, or else the first at their address
unfoldable pub variable_of : List VariablePlace → List Variable → Bytes → ℕ
variable_of places variables bytes =
    if nat_lt (first_with places variables bytes) (length variables) then first_with places variables bytes
    else first_at places variables bytes.addr

-- a variable's name
abbrev pub name_in : Option Variable → List ℕ
name_in None = codes "?"
name_in (Some variable) = variable.name

-- the name of the variable of a number; `?` where there is none
abbrev pub name_of : List Variable → ℕ → List ℕ
name_of variables number = name_in (slice_get variables number)

-- the names of two variables, or that of both, where they are the same
unfoldable pub names_of : List Variable → (first second : ℕ) → List ℕ
names_of variables first second =
    if first == second then name_of variables first
    else concat (name_of variables first ∷ codes ", " ∷ name_of variables second ∷ [])

-- the same, cut where the names are long
unfoldable pub label : List Variable → (first second : ℕ) → List ℕ
label variables first second =
    if first == second then cut (name_of variables first) 26
    else concat (cut (name_of variables first) 12 ∷ codes ", " ∷ cut (name_of variables second) 12 ∷ [])
