-- Reading variables and registers, and counting accesses.
use Rattle.std.specs.Prelude.{ℕ, List, [], ◌∷◌, ◌+◌, ◌++◌, ◌==◌, nat_lt, Option, Some, None, Bool, true, false, find, is_some, length, position, if◌then◌else◌}
use Rattle.litmus_lex.specs.declared.words.VariableType.{VariableType}
use Rattle.litmus_lex.specs.declared.words.VariableType.TheVariants.{Char, Short, Int, Long, Atomic, Lock}
use Rattle.litmus_lex.specs.declared.sign.Sign.{Sign}
use Rattle.litmus_lex.specs.Front.{◌>>=◌, begins_call, first, identifier_at, take_sign}
use Rattle.litmus_lex.specs.Words.{is_same}
use Rattle.litmus_expression.specs.declared.process.Takes.{Takes}
use Rattle.litmus_expression.specs.declared.process.Takes.TheVariants.{Integers, Atomics, Locks, Memory}
use Rattle.litmus_syntax.specs.Limits.{registers_limit, repeats_limit}
use Rattle.litmus_expression.specs.Names.{Names, Parameter}
use Rattle.litmus_expression.specs.States.{State, after, with_left}

-- an access is counted, where the loops repeat it so often
abbrev pub count_access : ℕ → State → Option State
count_access turns s = if nat_lt repeats_limit (s.repeats + turns) then None else Some (record s { repeats = s.repeats + turns })

-- whether a form takes a type
abbrev pub takes_type : Takes → VariableType → Bool
takes_type Integers Char = true
takes_type Integers Short = true
takes_type Integers Int = true
takes_type Integers Long = true
takes_type Integers Atomic = false
takes_type Integers Lock = false
takes_type Atomics Char = false
takes_type Atomics Short = false
takes_type Atomics Int = false
takes_type Atomics Long = false
takes_type Atomics Atomic = true
takes_type Atomics Lock = false
takes_type Locks Char = false
takes_type Locks Short = false
takes_type Locks Int = false
takes_type Locks Long = false
takes_type Locks Atomic = false
takes_type Locks Lock = true
takes_type Memory Char = true
takes_type Memory Short = true
takes_type Memory Int = true
takes_type Memory Long = true
takes_type Memory Atomic = true
takes_type Memory Lock = false

-- the parameter of a name
unfoldable pub parameter_named : List Parameter → List ℕ → Option Parameter
parameter_named parameters name = find (λ (p : Parameter). is_same p.name name) parameters

abbrev pub variable_of : Takes → State → Option Parameter → Option (ℕ × State)
variable_of takes s None = None
variable_of takes s (Some p) = if takes_type takes p.type then Some (p.variable, after s) else None

abbrev pub variable_named : Takes → State → Option (List ℕ) → Option (ℕ × State)
variable_named takes s None = None
variable_named takes s (Some name) = variable_of takes s (parameter_named s.parameters name)

-- VAR is taken, of a type that the form takes
unfoldable pub take_variable : Takes → State → Option (ℕ × State)
take_variable takes s = variable_named takes s (identifier_at (first s.symbols))

-- VAR and the sign behind it are taken
unfoldable pub variable_before : Sign → Takes → State → Option (ℕ × State)
variable_before sign takes s = take_variable takes s >>= λ v. take_sign sign v.1.symbols >>= λ symbols. Some (v.0, with_left v.1 symbols)

-- the place of a name
unfoldable pub index_of : Names → List ℕ → Option ℕ
index_of names name = position (λ (other : List ℕ). is_same other name) names

abbrev pub numbered : State → List ℕ → Option ℕ → Option (ℕ × State)
numbered s name (Some number) = Some (number, s)
numbered s name None =
    if length s.names == registers_limit
    then None
    else Some (length s.names, record s { names = s.names ++ name ∷ [] })

abbrev pub free_name : List ℕ → Option Parameter → Option (List ℕ)
free_name name (Some p) = None
free_name name None = Some name

abbrev pub name_among : List Parameter → Option (List ℕ) → Option (List ℕ)
name_among parameters None = None
name_among parameters (Some name) = free_name name (parameter_named parameters name)

-- the name that is next, if it is no word and no parameter's
abbrev pub register_name : State → Option (List ℕ)
register_name s = name_among s.parameters (identifier_at (first s.symbols))

abbrev pub register_named : State → Option (List ℕ) → Option (ℕ × State)
register_named s None = None
register_named s (Some name) = numbered s name (index_of s.names name)

-- REG is next, and gets a number if it has none
unfoldable pub register_at : State → Option (ℕ × State)
register_at s = register_named s (register_name s)

-- REG is taken
unfoldable pub take_register : State → Option (ℕ × State)
take_register s = register_at s >>= λ x. Some (x.0, after x.1)
