-- Reading parameters of a process: what the parser's functions answer, apart from which refusal it is.
use Rattle.std.specs.Prelude.{◌==◌, ◌++◌, ℕ, suc, List, [], ◌∷◌, Option, Some, None, Bool, true, false, length, if◌then◌else◌}
use Rattle.litmus_lex.specs.declared.sign.Sign.TheVariants.{OpenParen, CloseParen, Comma, Star}
use Rattle.litmus_lex.specs.declared.words.VariableType.{VariableType}
use Rattle.litmus_lex.specs.Front.{◌>>=◌, first, identifier_at, is_sign, others, take_sign}
use Rattle.litmus_expression.specs.Names.{Parameter}
use Rattle.litmus_parse.specs.Entries.{changed, named_parameter}
use Rattle.litmus_parse.specs.HeaderReader.{type_at}
use Rattle.litmus_parse.specs.ProcessHeaders.{parameter_of}
use Rattle.litmus_parse.specs.ItemReader.{Heading, named_in, past}
use Rattle.litmus_parse.specs.Turns.{Turn, again, done, going}

-- whether one of these parameters is the variable
abbrev pub has_variable : List Parameter → ℕ → Bool
has_variable [] variable = false
has_variable (p ∷ parameters) variable = if p.variable == variable then true else has_variable parameters variable

-- the parameter of a name that has a number, behind these parameters
abbrev pub numbered_parameter : List Parameter → VariableType → List ℕ → ℕ × Heading → Option (Parameter × Heading)
numbered_parameter before type name v =
    changed (named_parameter type) v.1.table v.0 >>= λ table. if has_variable before v.0
    then None
    else Some (parameter_of name v.0 type, past (record v.1 { table = table }))

abbrev pub parameter_named : List Parameter → VariableType → Heading → Option (List ℕ) → Option (Parameter × Heading)
parameter_named before type h None = None
parameter_named before type h (Some name) = named_in h (Some name) >>= λ v. numbered_parameter before type name v

-- NAME of a parameter of a type, behind these parameters
unfoldable pub parameter_of_type : List Parameter → VariableType → Heading → Option (Parameter × Heading)
parameter_of_type before type h = parameter_named before type h (identifier_at (first h.symbols))

abbrev pub parameter_with : List Parameter → Heading → Option VariableType → Option (Parameter × Heading)
parameter_with before h None = None
parameter_with before h (Some type) =
    take_sign Star (others h.symbols) >>= λ symbols. parameter_of_type before type (record h { symbols = symbols })

-- `vtype * NAME`, behind these parameters
unfoldable pub parameter_at : List Parameter → Heading → Option (Parameter × Heading)
parameter_at before h = parameter_with before h (type_at (first h.symbols))

-- what follows a parameter: `,` and more, or the `)`
abbrev pub behind_parameter : List Parameter × Heading → Option (Turn (List Parameter × Heading) (List Parameter × Heading))
behind_parameter x =
    if is_sign Comma (first x.1.symbols)
    then Some (again (x.0, past x.1))
    else (take_sign CloseParen x.1.symbols >>= λ symbols. Some (done (x.0, record x.1 { symbols = symbols })))

abbrev pub listed_by : List Parameter × Heading → Option (Turn (List Parameter × Heading) (List Parameter × Heading))
listed_by x = parameter_at x.0 x.1 >>= λ p. behind_parameter (x.0 ++ p.0 ∷ [], p.1)

-- one parameter and more behind these, joined by `,`, and the `)`
unfoldable pub listed_at : List Parameter × Heading → Option (List Parameter × Heading)
listed_at x = going listed_by (suc (length x.1.symbols)) x

abbrev pub behind_paren : Heading → Option (List Parameter × Heading)
behind_paren h = if is_sign CloseParen (first h.symbols) then Some ([], past h) else listed_at ([], h)

-- the parameters of a process in their parentheses
unfoldable pub parameters_at : Heading → Option (List Parameter × Heading)
parameters_at h = take_sign OpenParen h.symbols >>= λ symbols. behind_paren (record h { symbols = symbols })
