-- What a condition says of the values at the end of a run.
use Rattle.std.specs.Prelude.{◌≡◌, ◌⊎◌, ℕ, Option, None, Some, Vec, slice_get, unwrap_or}
use Rattle.std.specs.Global.{Global}
use Rattle.litmus_semantics.specs.declared.final_condition.condition.Finals.{Finals}
use Rattle.litmus_syntax.specs.Tree.{Proposition, always, both, either, negation, never, register_is, variable_is}

-- the proposition holds where registers, by the numbers of their tasks and their own, and variables, by their
-- numbers, have these values
abbrev pub Holds : (registers : ℕ → ℕ → ℕ) → (variables : ℕ → ℕ) → Proposition → Type 0
Holds registers variables always = Unit {0}
Holds registers variables never = ⊥
Holds registers variables (register_is task register value) = registers task register ≡ value
Holds registers variables (variable_is variable value) = variables variable ≡ value
Holds registers variables (negation inner) = ¬ (Holds registers variables inner)
Holds registers variables (both left right) = Holds registers variables left × Holds registers variables right
Holds registers variables (either left right) = Holds registers variables left ⊎ Holds registers variables right

-- the value of a number among the values of a task, if that is there; 0 where there is none
abbrev pub value_among : Option (Vec ℕ Global) → ℕ → ℕ
value_among None number = 0
value_among (Some values) number = unwrap_or (slice_get values.items number) 0

-- the value of a register of a task
abbrev pub register_of : Finals → ℕ → ℕ → ℕ
register_of finals task register = value_among (slice_get finals.registers.items task) register

-- the value of a variable
abbrev pub variable_of : Finals → ℕ → ℕ
variable_of finals variable = unwrap_or (slice_get finals.variables.items variable) 0
