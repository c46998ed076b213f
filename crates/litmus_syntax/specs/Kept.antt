-- What is counted of a text as its limits are looked at.
use Rattle.std.specs.Prelude.{◌≡◌, ◌+◌, ◌*◌, ℕ, Bool, if◌then◌else◌}
use Rattle.litmus_syntax.specs.Limits.{BlockScopes, BlockTurns, BlockTyped, IsVariable, StatementScopes, StatementTurns, StatementTyped, block_count, block_repeats, block_rises, statement_count, statement_repeats, statement_rises}
use Rattle.litmus_syntax.specs.Tree.{Block, Statement}
use Rattle.litmus_syntax.specs.declared.limits.Enclosing.{Enclosing}
use Rattle.litmus_syntax.specs.declared.limits.Scope.{Scope}
use Rattle.litmus_syntax.specs.declared.limits.Tally.{Tally}

-- so many statements, repeats and rises are added
pub record Adds (old new : Tally) (stated repeated risen : ℕ) : Type 0 where
  pub statements : new.statements ≡ old.statements + stated
  pub repeats : new.repeats ≡ old.repeats + repeated
  pub rises : new.rises ≡ old.rises + risen

-- a statement and a block at a place keep the limits and the rules of types, and are counted
pub record StatementIsKept (scope : Scope) (place : Enclosing) (old new : Tally) (s : Statement) : Type 0 where
  pub adds : Adds old new (statement_count s) (statement_repeats place.turns s) (place.turns * statement_rises s)
  pub turns : StatementTurns place.turns s
  pub scopes : StatementScopes place.scopes s
  pub typed : StatementTyped (IsVariable scope.variables.now) scope.registers s

pub record BlockIsKept (scope : Scope) (place : Enclosing) (old new : Tally) (b : Block) : Type 0 where
  pub adds : Adds old new (block_count b) (block_repeats place.turns b) (place.turns * block_rises b)
  pub turns : BlockTurns place.turns b
  pub scopes : BlockScopes place.scopes b
  pub typed : BlockTyped (IsVariable scope.variables.now) scope.registers b
