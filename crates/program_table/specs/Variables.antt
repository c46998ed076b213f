-- The lines of variables: type, address and initial value.
use Rattle.std.specs.Prelude.{◌==◌, ◌++◌, ℕ, suc, List, [], ◌∷◌, codes, if◌then◌else◌, ℤ}
use Rattle.std.specs.Fmt.{signed_decimal}
use Rattle.std.specs.List.{concat}
use Rattle.access_types.specs.declared.history.Bytes.{Bytes}
use Rattle.litmus_semantics.specs.Layout.{VariablePlace, bytes_of_variable}
use Rattle.litmus_syntax.specs.PrintedForm.{type_name}
use Rattle.litmus_syntax.specs.declared.program.Contents.{Contents}
use Rattle.litmus_syntax.specs.declared.program.Contents.TheVariants.{Atomic, Char, Int, Lock, Long, Short}
use Rattle.litmus_syntax.specs.declared.program.Variable.{Variable}
use Rattle.program_table.specs.Accesses.{hexed}
use Rattle.program_table.specs.text_pieces.Pieces.{padded}
use Rattle.program_table.specs.text_pieces.Shown.{cut}

-- a number in decimal, behind a `-` where it is below 0
abbrev pub signed : ℤ → List ℕ
signed value = signed_decimal value

-- the initial value of a variable, as it is written: where another variable is placed over it, its bytes may hold
-- another
unfoldable pub value_text : Contents → List ℕ
value_text (Char value) = signed value
value_text (Short value) = signed value
value_text (Int value) = signed value
value_text (Atomic value) = signed value
value_text (Long value) = signed value
value_text Lock = codes "free"

-- where a variable with these bytes stands: a lock has none
unfoldable pub address_text : Bytes → List ℕ
address_text bytes = if bytes.size == 0 then codes "none" else hexed bytes.addr

-- the line of a variable with these bytes
unfoldable pub variable_line : Bytes → Variable → List ℕ
variable_line bytes variable = concat
    (padded (cut variable.name 32) 34 ∷ padded (type_name variable.contents) 12 ∷ padded (address_text bytes) 20
    ∷ value_text variable.contents ∷ codes "\n" ∷ [])

-- the lines of the variables from a number on, of all these with their places
abbrev pub lines_from : List VariablePlace → (variables : List Variable) → (number : ℕ) → List Variable → List ℕ
lines_from places variables number [] = []
lines_from places variables number (variable ∷ more) =
    variable_line (bytes_of_variable places variables number) variable ++ lines_from places variables (suc number) more
