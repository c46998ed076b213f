-- What is read is spelled so: what laws say of the readers of statements and blocks. What is counted as it is
-- read is no part of the relation, which asks for the limits of a body when it is whole.
use Rattle.std.specs.Prelude.{◌≡◌, ◌≤◌, ℕ, List, [], ◌∷◌, Option, length}
use Rattle.litmus_lex.specs.declared.sign.Sign.TheVariants.{OpenBrace}
use Rattle.litmus_syntax.specs.Limits.{nesting_limit, registers_limit, scoped_limit}
use Rattle.litmus_syntax.specs.Tree as tree
use Rattle.litmus_lex.specs.Words.{Symbol, sign}
use Rattle.litmus_expression.specs.Counters.{AreCounters}
use Rattle.litmus_expression.specs.Places.{NestingPlace}
use Rattle.litmus_expression.specs.States.{State}
use Rattle.litmus_body.specs.Statements.{Body, Statement, Statements}

-- a state at a place: these registers count the loops round it, and no limit is passed
pub record Stands (p : NestingPlace) (counters : List ℕ) (s : State) : Type 0 where
  pub are : AreCounters p.counters counters
  pub depth : p.depth ≤ nesting_limit
  pub scopes : p.scopes ≤ scoped_limit
  pub registers : length s.names ≤ registers_limit

-- one statement, and what is kept of it
pub record ReadsStatement (p : NestingPlace) (counters : List ℕ) (s : State) (x : Option tree.Statement × State) : Type 0 where
  pub spelled : Statement s.parameters p.depth counters s.names s.symbols x.0 x.1.symbols x.1.names
  pub within : length x.1.names ≤ registers_limit
  pub parameters : x.1.parameters ≡ s.parameters

-- a block, or one statement that is a block of its own
pub record ReadsBody (p : NestingPlace) (counters : List ℕ) (s : State) (x : tree.Block × State) : Type 0 where
  pub spelled : Body s.parameters p.depth counters s.names s.symbols x.0 x.1.symbols x.1.names
  pub within : length x.1.names ≤ registers_limit
  pub parameters : x.1.parameters ≡ s.parameters

-- the body of a process, from its `{` on
pub record ReadsWhole (s : State) (x : tree.Block × State) : Type 0 where
  pub inside : List Symbol
  pub opens : s.symbols ≡ sign OpenBrace ∷ inside
  pub spelled : Statements s.parameters 1 [] [] inside x.0 x.1.symbols x.1.names
  pub within : length x.1.names ≤ registers_limit
  pub parameters : x.1.parameters ≡ s.parameters
