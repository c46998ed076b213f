-- What is asked of the names of a process that is printed.
use Rattle.std.specs.Prelude.{◌≡◌, ◌≤◌, ℕ, List, Contains, Some, length, map, slice_get}
use Rattle.litmus_syntax.specs.declared.program.Variable.{Variable}
use Rattle.litmus_syntax.specs.Limits.{registers_limit}
use Rattle.litmus_expression.specs.Followed.{Differ, name_of}
use Rattle.litmus_expression.specs.Names.{IsFree, Names, Parameter}
use Rattle.print_roundtrip.specs.printed_texts.PrintedProcess.{type_of}

-- the variable that a parameter names is there, with its name and its type
pub record IsOf (variables : List Variable) (names : Names) (p : Parameter) : Type 0 where
  pub variable : Variable
  pub there : slice_get variables p.variable ≡ Some variable
  pub named : variable.name ≡ p.name
  pub typed : type_of variable.contents ≡ p.type
  pub numbered : slice_get names p.variable ≡ Some p.name

-- parameters are of these variables, and their names differ; names of registers differ, are no parameters' and no more
-- than there may be
pub record AreNames (variables : List Variable) (names : Names) (parameters : List Parameter) (registers : Names) : Type 0 where
  pub parameters_are : (p : Parameter) → Contains parameters p → IsOf variables names p
  pub parameters_differ : Differ (map name_of parameters)
  pub registers_differ : Differ registers
  pub registers_few : length registers ≤ registers_limit
  pub registers_free : (name : List ℕ) → Contains registers name → IsFree parameters name
