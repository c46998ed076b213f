-- Reading registers that are changed, and counting statements.
use Rattle.std.specs.Prelude.{ℕ, ◌+◌, ◌==◌, List, Option, Some, None, Bool, if◌then◌else◌}
use Rattle.litmus_syntax.specs.Limits.{statements_limit}
use Rattle.litmus_lex.specs.Front.{◌>>=◌}
use Rattle.litmus_expression.specs.NameReader.{register_at}
use Rattle.litmus_expression.specs.Places.{is_counter}
use Rattle.litmus_expression.specs.States.{State, after}

-- a statement is counted
abbrev pub count_statement : State → Option State
count_statement s = if s.statements == statements_limit then None else Some (record s { statements = s.statements + 1 })

-- REG is taken where it is assigned or declared, if it counts no loop there
unfoldable pub take_changed : (counters : List Bool) → State → Option (ℕ × State)
take_changed counters s = register_at s >>= λ x. if is_counter counters x.0 then None else Some (x.0, after x.1)
