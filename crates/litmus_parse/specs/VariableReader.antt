-- Reading names of variables: what the parser's functions answer, apart from which refusal it is.
use Rattle.std.specs.Prelude.{◌==◌, ◌++◌, ℕ, List, [], ◌∷◌, Option, Some, None, Bool, true, false, get_or, length, map, if◌then◌else◌}
use Rattle.litmus_syntax.specs.Limits.{variables_limit}
use Rattle.litmus_lex.specs.declared.words.VariableType.{VariableType}
use Rattle.litmus_lex.specs.declared.words.VariableType.TheVariants.{Lock}
use Rattle.litmus_lex.specs.Front.{first, identifier_at, others}
use Rattle.litmus_lex.specs.Words.{Symbol}
use Rattle.litmus_expression.specs.NameReader.{index_of}
use Rattle.litmus_expression.specs.Names.{Names}
use Rattle.litmus_parse.specs.declared.declaration.Declarations.{Declarations}
use Rattle.litmus_parse.specs.declared.declaration.Declared.{Declared}

abbrev pub name_of : Declared → List ℕ
name_of declared = declared.name.now

-- the names of variables, each at its number
abbrev pub names_of : Declarations → Names
names_of declarations = map name_of declarations.variables.items

abbrev pub is_lock_type : Option VariableType → Bool
is_lock_type (Some Lock) = true
is_lock_type _ = false

abbrev pub is_lock : Declared → Bool
is_lock declared = is_lock_type declared.variable_type

-- whether each variable is a lock
abbrev pub locks_of : Declarations → List Bool
locks_of declarations = map is_lock declarations.variables.items

abbrev pub numbered_with : Names → List ℕ → Option ℕ → Option (ℕ × Names)
numbered_with names name (Some number) = Some (number, names)
numbered_with names name None =
    if length names == variables_limit then None else Some (length names, names ++ name ∷ [])

-- the number of a name, which gets the next one if it has none
unfoldable pub number_at : Names → List ℕ → Option (ℕ × Names)
number_at names name = numbered_with names name (index_of names name)

abbrev pub unless_lock : List Bool → List Symbol → Option ℕ → Option (ℕ × List Symbol)
unless_lock locks symbols None = None
unless_lock locks symbols (Some number) = if get_or locks number false then None else Some (number, others symbols)

abbrev pub known_named : Names → List Bool → List Symbol → Option (List ℕ) → Option (ℕ × List Symbol)
known_named names locks symbols None = None
known_named names locks symbols (Some name) = unless_lock locks symbols (index_of names name)

-- VAR of a condition is taken: a name that has a number, and no lock's
unfoldable pub known_variable : Names → List Bool → List Symbol → Option (ℕ × List Symbol)
known_variable names locks symbols = known_named names locks symbols (identifier_at (first symbols))
