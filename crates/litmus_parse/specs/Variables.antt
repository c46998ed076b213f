-- The variables of a text in the end: what names are, by what is known of them.
use Rattle.std.specs.Prelude.{ℕ, List, [], ◌∷◌, Bool, true, false, map, unwrap_or, if◌then◌else◌}
use Rattle.litmus_syntax.specs.declared.program.Variable.{Variable}
use Rattle.litmus_lex.specs.declared.words.VariableType.TheVariants.{Int}
use Rattle.litmus_expression.specs.Names.{Names}
use Rattle.litmus_parse.specs.Entries.{Entry, has_two_types}
use Rattle.litmus_parse.specs.Mentions.{contents_of}
use Rattle.litmus_parse.specs.VariableReader.{is_lock_type}

-- the variable that a name is in the end
abbrev pub variable_in : List ℕ → Entry → Variable
variable_in name e = record { name = name; contents = contents_of (unwrap_or e.type Int) (unwrap_or e.value 0) }

-- the variables that names are, each with its entry
abbrev pub variables_in : Names → List Entry → List Variable
variables_in [] table = []
variables_in (name ∷ names) [] = []
variables_in (name ∷ names) (e ∷ table) = variable_in name e ∷ variables_in names table

-- whether a variable has two types
abbrev pub has_contradiction : List Entry → Bool
has_contradiction [] = false
has_contradiction (e ∷ table) = if has_two_types e then true else has_contradiction table

abbrev pub is_lock_entry : Entry → Bool
is_lock_entry e = is_lock_type e.type

-- whether each variable is a lock
abbrev pub locks_in : List Entry → List Bool
locks_in table = map is_lock_entry table
