-- What is read is spelled so, and counted: what laws say of the readers of statements.
use Rattle.std.specs.Prelude.{◌≡◌, ◌+◌, ◌≤◌, ℕ, List, length, false}
use Rattle.litmus_lex.specs.declared.sign.Sign.TheVariants.{Assign, AddAssign}
use Rattle.litmus_syntax.specs.Limits.{own_repeats, registers_limit}
use Rattle.litmus_lex.specs.Front.{first, is_sign}
use Rattle.litmus_lex.specs.Words.{Symbol}
use Rattle.litmus_expression.specs.Followed.{Follows}
use Rattle.litmus_expression.specs.Places.{NestingPlace}
use Rattle.litmus_expression.specs.States.{State}
use Rattle.litmus_body.specs.Statements.{Enclosable, Simple, alone}

-- what follows a simple statement can't continue it: no operator, and neither `=` nor `+=`
pub record EndsSimple (rest : List Symbol) : Type 0 where
  pub follows : Follows 7 rest
  pub no_assign : is_sign Assign (first rest) ≡ false
  pub no_add : is_sign AddAssign (first rest) ≡ false

-- a simple statement that is read is spelled so; its access is counted, and no more
pub record ReadsSimple (p : NestingPlace) (counters : List ℕ) (s : State) (x : Enclosable × State) : Type 0 where
  pub spelled : Simple s.parameters p.depth counters s.names s.symbols x.0 x.1.symbols x.1.names
  pub within : length x.1.names ≤ registers_limit
  pub parameters : x.1.parameters ≡ s.parameters
  pub statements : x.1.statements ≡ s.statements
  pub repeats : x.1.repeats ≡ s.repeats + own_repeats p.turns (alone x.0)
