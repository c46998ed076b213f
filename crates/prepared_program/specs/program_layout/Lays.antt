-- A layout is that of a program's variables.
use Rattle.std.specs.Prelude.{◌≡◌, Bool, List, false, true}
use Rattle.litmus_semantics.specs.Layout.{VariablePlace, initial_values}
use Rattle.litmus_syntax.specs.declared.program.Contents.TheVariants.{Lock}
use Rattle.litmus_syntax.specs.declared.program.Contents.{Contents}
use Rattle.litmus_syntax.specs.declared.program.Variable.{Variable}
use Rattle.prepared_program.specs.declared.program_layout.layout.Layout.{Layout}

-- the layout has the bytes and the initial values of these variables, with these places
abbrev pub Lays : List VariablePlace → List Variable → Layout → Type 0
Lays places variables layout = layout.variables.items ≡ initial_values places 0 variables

-- a lock has no bytes
abbrev pub holds_lock : Contents → Bool
holds_lock Lock = true
holds_lock contents = false

abbrev pub is_lock : Variable → Bool
is_lock variable = holds_lock variable.contents
