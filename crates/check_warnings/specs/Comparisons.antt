-- What `check` warns of where a variable is compared with a number that no variable of its type has as value, since
-- each type has a sign.
use Rattle.std.specs.Prelude.{◌==◌, ◌&&◌, ◌||◌, ◌++◌, ◌%◌, ◌-◌, ◌^◌, ℕ, suc, Bool, true, false, List, [], ◌∷◌, Option, Some, None, codes, if◌then◌else◌, nat_lt, option_map}
use Rattle.std.specs.List.{concat}
use Rattle.litmus_syntax.specs.PrintedForm.{type_name}
use Rattle.litmus_syntax.specs.Tree.{Assignment, Block, Expression, Fetch, Loading, Proposition, Pure, Statement, Task}
use Rattle.litmus_syntax.specs.Tree as tree
use Rattle.litmus_syntax.specs.declared.expression.BinaryOperator.{BinaryOperator}
use Rattle.litmus_syntax.specs.declared.expression.BinaryOperator.TheVariants.{Equal, Greater, GreaterOrEqual, Less, LessOrEqual, NotEqual}
use Rattle.litmus_syntax.specs.declared.expression.UnaryOperator.TheVariants.{Negate}
use Rattle.litmus_syntax.specs.declared.program.Contents.{Contents}
use Rattle.litmus_syntax.specs.declared.program.Contents.TheVariants.{Atomic, Char, Int, Lock, Long, Short}
use Rattle.litmus_syntax.specs.declared.program.Variable.{Variable}
use Rattle.program_table.specs.text_pieces.Shown.{shown}

-- the greatest value of this type; a lock has no value, and is as a `long` here, whose values are all numbers of 64 bits
abbrev pub greatest : Contents → ℕ
greatest (Char n) = 2 ^ 7 - 1
greatest (Short n) = 2 ^ 15 - 1
greatest (Int n) = 2 ^ 31 - 1
greatest (Long n) = 2 ^ 63 - 1
greatest (Atomic n) = 2 ^ 31 - 1
greatest Lock = 2 ^ 63 - 1

-- a number of 64 bits, where -1 is 2 ^ 64 - 1, is no value of this type: it is above the greatest value and below the
-- least, which is 2 ^ 64 - 1 less the greatest
abbrev pub is_beyond : Contents → ℕ → Bool
is_beyond contents number = nat_lt (greatest contents) number && nat_lt number (2 ^ 64 - 1 - greatest contents)

-- the number that an expression is written as, with minus signs or without
abbrev pub number_of : Pure → Option ℕ
number_of (tree.number n) = Some n
number_of (tree.unary Negate a) = option_map (λ n. (2 ^ 64 - n) % 2 ^ 64) (number_of a)
number_of _ = None

-- the number that an expression is written as, if it is one, is no value of this type
abbrev pub is_never : Contents → Option ℕ → Bool
is_never contents None = false
is_never contents (Some number) = is_beyond contents number

-- an operator that compares
abbrev pub is_comparison : BinaryOperator → Bool
is_comparison Less = true
is_comparison Greater = true
is_comparison LessOrEqual = true
is_comparison GreaterOrEqual = true
is_comparison Equal = true
is_comparison NotEqual = true
is_comparison _ = false

-- the variable that a load reads
abbrev pub variable_of : Fetch → ℕ
variable_of (tree.read form variable) = variable
variable_of (tree.exchange variable value) = variable
variable_of (tree.compare_exchange variable expected replacement) = variable

-- an expression is a load of the variable
abbrev pub is_load_of : (variable : ℕ) → Loading → Bool
is_load_of variable (tree.load l) = variable_of l.fetch == variable
is_load_of variable _ = false

-- where the variable of this number, which has this type, is compared with a number that is no value of the type
module _ (variable : ℕ) (contents : Contents) where
  -- an operator is such a comparison of these two, in this order or the other
  abbrev pub compares : BinaryOperator → Loading → Pure → Bool
  compares op a b = is_comparison op && is_load_of variable a && is_never contents (number_of b)

  -- one stands in an expression with a load
  abbrev pub in_loading : Loading → Bool
  in_loading (tree.load l) = false
  in_loading (tree.unary_of op a) = in_loading a
  in_loading (tree.left op a b) = compares op a b || in_loading a
  in_loading (tree.right op a b) = compares op b a || in_loading b

  -- in an expression
  abbrev pub in_expression : Expression → Bool
  in_expression (tree.pure a) = false
  in_expression (tree.loading a) = in_loading a

  -- in an assignment: only what a register is assigned has loads
  abbrev pub in_assignment : Assignment → Bool
  in_assignment (tree.to_register register value) = in_expression value
  in_assignment _ = false

  abbrev mutual
    -- in a statement
    pub in_statement : Statement → Bool
    in_statement (tree.assign data_race a) = in_assignment a
    in_statement (tree.if_block condition body) = in_expression condition || in_block body
    in_statement (tree.if_else condition body otherwise) = in_expression condition || in_block body || in_block otherwise
    in_statement (tree.for_turns counter turns body) = in_block body
    in_statement _ = false

    -- in a block
    pub in_block : Block → Bool
    in_block tree.empty = false
    in_block (tree.first s rest) = in_statement s || in_block rest

  -- in the body of one of these tasks
  abbrev pub in_tasks : List Task → Bool
  in_tasks [] = false
  in_tasks (task ∷ more) = in_block task.body || in_tasks more

  -- in the condition
  abbrev pub in_condition : Proposition → Bool
  in_condition (tree.variable_is x value) = x == variable && is_beyond contents value
  in_condition (tree.negation p) = in_condition p
  in_condition (tree.both p q) = in_condition p || in_condition q
  in_condition (tree.either p q) = in_condition p || in_condition q
  in_condition _ = false

-- the article before the name of this type
abbrev pub article : Contents → List ℕ
article (Char n) = codes "a"
article (Short n) = codes "a"
article (Int n) = codes "an"
article (Long n) = codes "a"
article (Atomic n) = codes "an"
article Lock = codes "a"

-- what is said of a variable of this type that is compared so, behind its name
unfoldable pub compared_words : Contents → List ℕ
compared_words contents = concat
    (codes "` is compared with a number that " ∷ article contents ∷ codes " `" ∷ type_name contents
    ∷ codes "` never is: its value has a sign, and with all bits set it is -1\n" ∷ [])

-- the warning on a variable that is compared so, in a file of this name
unfoldable pub compared_line : (file : List ℕ) → Variable → List ℕ
compared_line file variable = concat
    (shown file ∷ codes ": warning: `" ∷ shown variable.name ∷ compared_words variable.contents ∷ [])

-- the warnings on variables of programs with these tasks and this condition, in a file of this name
module _ (file : List ℕ) (tasks : List Task) (condition : Proposition) where
  -- the warning on the variable of this number
  unfoldable pub variable_line : (number : ℕ) → Variable → List ℕ
  variable_line number variable =
      if in_condition number variable.contents condition || in_tasks number variable.contents tasks
      then compared_line file variable else []

  -- the warnings on the variables from this number on
  abbrev pub variables_from : (number : ℕ) → List Variable → List ℕ
  variables_from number [] = []
  variables_from number (variable ∷ more) = variable_line number variable ++ variables_from (suc number) more
