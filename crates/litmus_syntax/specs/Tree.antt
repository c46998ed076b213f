-- Litmus programs without where they lie in memory.
use Rattle.std.specs.Prelude.{ℕ, Bool, List}
use Rattle.litmus_syntax.specs.declared.expression.UnaryOperator.{UnaryOperator}
use Rattle.litmus_syntax.specs.declared.expression.BinaryOperator.{BinaryOperator}
use Rattle.litmus_syntax.specs.declared.expression.ReadForm.{ReadForm}
use Rattle.litmus_syntax.specs.declared.program.Variable.{Variable}
use Rattle.litmus_syntax.specs.declared.proposition.Quantifier.{Quantifier}
use Rattle.litmus_syntax.specs.declared.statement.Call.{Call}
use Rattle.litmus_syntax.specs.declared.statement.WriteForm.{WriteForm}

-- an expression without a load, over the registers of a task
pub data Pure : Type 0 where
  number : ℕ → Pure
  register : ℕ → Pure
  unary : UnaryOperator → Pure → Pure
  binary : BinaryOperator → Pure → Pure → Pure

-- what a load does, with the number of its variable
pub data Fetch : Type 0 where
  read : ReadForm → (variable : ℕ) → Fetch
  exchange : (variable : ℕ) → (value : Pure) → Fetch
  compare_exchange : (variable : ℕ) → (expected replacement : Pure) → Fetch

-- a load, inside so many data_race( )
pub record Load : Type 0 where
  pub data_races : ℕ
  pub fetch : Fetch

-- an expression with one load: the load, or an operator on one side of which it stands
pub data Loading : Type 0 where
  load : Load → Loading
  unary_of : UnaryOperator → Loading → Loading
  left : BinaryOperator → Loading → Pure → Loading
  right : BinaryOperator → Pure → Loading → Loading

-- an expression with one load at most
pub data Expression : Type 0 where
  pure : Pure → Expression
  loading : Loading → Expression

-- what gives a register or a variable a value
pub data Assignment : Type 0 where
  to_register : (register : ℕ) → (value : Expression) → Assignment
  write : WriteForm → (variable : ℕ) → (value : Pure) → Assignment
  add : (variable : ℕ) → (value : Pure) → Assignment
  increment : (variable : ℕ) → Assignment
  atomic_add : (value : Pure) → (variable : ℕ) → Assignment
  atomic_increment : (variable : ℕ) → Assignment
  atomic_decrement : (variable : ℕ) → Assignment

mutual
  -- a statement
  pub data Statement : Type 0 where
    load_only : Load → Statement
    assign : (data_race : Bool) → Assignment → Statement
    call : Call → Statement
    if_block : (condition : Expression) → (body : Block) → Statement
    if_else : (condition : Expression) → (body otherwise : Block) → Statement
    for_turns : (register turns : ℕ) → (body : Block) → Statement

  -- statements in their order
  pub data Block : Type 0 where
    empty : Block
    first : Statement → Block → Block

-- what a program asks of its end
pub data Proposition : Type 0 where
  always : Proposition
  never : Proposition
  register_is : (task register value : ℕ) → Proposition
  variable_is : (variable value : ℕ) → Proposition
  negation : Proposition → Proposition
  both : Proposition → Proposition → Proposition
  either : Proposition → Proposition → Proposition

-- a task: the numbers of its parameters' variables, the names of its registers, and what it does
pub record Task : Type 0 where
  pub parameters : List ℕ
  pub registers : List (List ℕ)
  pub body : Block

-- a program
pub record Program : Type 0 where
  pub name : List ℕ
  pub variables : List Variable
  pub tasks : List Task
  pub quantifier : Quantifier
  pub condition : Proposition
