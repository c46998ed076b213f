-- What a program of the code is, without where it lies in memory.
use Rattle.std.specs.Prelude.{List, [], ◌∷◌, map}
use Rattle.litmus_syntax.specs.Tree as tree
use Rattle.litmus_syntax.specs.declared.expression.Pure.{Pure}
use Rattle.litmus_syntax.specs.declared.expression.Pure.TheVariants as pures
use Rattle.litmus_syntax.specs.declared.expression.Fetch.{Fetch}
use Rattle.litmus_syntax.specs.declared.expression.Fetch.TheVariants as fetches
use Rattle.litmus_syntax.specs.declared.expression.Load.{Load}
use Rattle.litmus_syntax.specs.declared.expression.Loading.{Loading}
use Rattle.litmus_syntax.specs.declared.expression.Loading.TheVariants as loadings
use Rattle.litmus_syntax.specs.declared.expression.Expression.{Expression}
use Rattle.litmus_syntax.specs.declared.expression.Expression.TheVariants as expressions
use Rattle.litmus_syntax.specs.declared.statement.Assignment.{Assignment}
use Rattle.litmus_syntax.specs.declared.statement.Assignment.TheVariants as assignments
use Rattle.litmus_syntax.specs.declared.statement.Statement.{Statement, Row_of-Statement, end_of-Statement, more_of-Statement}
use Rattle.litmus_syntax.specs.declared.statement.Statement.TheVariants as statements
use Rattle.litmus_syntax.specs.declared.proposition.Proposition.{Proposition}
use Rattle.litmus_syntax.specs.declared.proposition.Proposition.TheVariants as propositions
use Rattle.litmus_syntax.specs.declared.program.Task.{Task}
use Rattle.litmus_syntax.specs.declared.program.Program.{Program}

abbrev pub pure_of : Pure → tree.Pure
pure_of (pures.Number n) = tree.number n
pure_of (pures.Register r) = tree.register r
pure_of (pures.Unary' op p e) = tree.unary op (pure_of e)
pure_of (pures.Binary' op p a q b) = tree.binary op (pure_of a) (pure_of b)

abbrev pub fetch_of : Fetch → tree.Fetch
fetch_of (fetches.Read form variable) = tree.read form variable
fetch_of (fetches.Exchange variable value) = tree.exchange variable (pure_of value)
fetch_of (fetches.CompareExchange variable expected replacement) =
    tree.compare_exchange variable (pure_of expected) (pure_of replacement)

abbrev pub load_of : Load → tree.Load
load_of l = record { data_races = l.data_races; fetch = fetch_of l.fetch }

abbrev pub loading_of : Loading → tree.Loading
loading_of (loadings.Load l) = tree.load (load_of l)
loading_of (loadings.Unary' op p e) = tree.unary_of op (loading_of e)
loading_of (loadings.Left' op p a b) = tree.left op (loading_of a) (pure_of b)
loading_of (loadings.Right' op a p b) = tree.right op (pure_of a) (loading_of b)

abbrev pub expression_of : Expression → tree.Expression
expression_of (expressions.Pure e) = tree.pure (pure_of e)
expression_of (expressions.Loading e) = tree.loading (loading_of e)

abbrev pub assignment_of : Assignment → tree.Assignment
assignment_of (assignments.Register register value) =
    tree.to_register register (expression_of value)
assignment_of (assignments.Write form variable value) = tree.write form variable (pure_of value)
assignment_of (assignments.Add variable value) = tree.add variable (pure_of value)
assignment_of (assignments.Increment variable) = tree.increment variable
assignment_of (assignments.AtomicAdd value variable) = tree.atomic_add (pure_of value) variable
assignment_of (assignments.AtomicIncrement variable) = tree.atomic_increment variable
assignment_of (assignments.AtomicDecrement variable) = tree.atomic_decrement variable

abbrev mutual
  pub statement_of : Statement → tree.Statement
  statement_of (statements.Load l) = tree.load_only (load_of l)
  statement_of (statements.Assign data_race assignment) =
      tree.assign data_race (assignment_of assignment)
  statement_of (statements.Call call) = tree.call call
  statement_of (statements.If' condition _ body) =
      tree.if_block (expression_of condition) (block_of_row body)
  statement_of (statements.IfElse' condition _ body _ otherwise) =
      tree.if_else (expression_of condition) (block_of_row body) (block_of_row otherwise)
  statement_of (statements.For' register turns _ body) =
      tree.for_turns register turns (block_of_row body)

  -- the statements of a block that stands in a statement
  pub block_of_row : {n : _} → Row_of-Statement n → tree.Block
  block_of_row end_of-Statement = tree.empty
  block_of_row (more_of-Statement s rest) = tree.first (statement_of s) (block_of_row rest)

-- statements, one after the other
abbrev pub block_of : List Statement → tree.Block
block_of [] = tree.empty
block_of (s ∷ rest) = tree.first (statement_of s) (block_of rest)

abbrev pub proposition_of : Proposition → tree.Proposition
proposition_of propositions.True = tree.always
proposition_of propositions.False = tree.never
proposition_of (propositions.Register task register value) = tree.register_is task register value
proposition_of (propositions.Variable variable value) = tree.variable_is variable value
proposition_of (propositions.Not' p e) = tree.negation (proposition_of e)
proposition_of (propositions.And' p a q b) = tree.both (proposition_of a) (proposition_of b)
proposition_of (propositions.Or' p a q b) = tree.either (proposition_of a) (proposition_of b)

abbrev pub task_of : Task → tree.Task
task_of t = record {
  parameters = t.parameters;
  registers = t.registers;
  body = block_of t.body.items;
}

abbrev pub program_of : Program → tree.Program
program_of p = record {
  name = p.name;
  variables = p.variables;
  tasks = map task_of p.tasks;
  quantifier = p.quantifier;
  condition = proposition_of p.condition;
}
