-- How much a litmus program can have, and what each program keeps that is read.
use Rattle.std.specs.Prelude.{◌≡◌, ◌≢◌, ◌+◌, ◌*◌, ◌^◌, ◌≤◌, ◌<◌, ℕ, All, AllPairs, List, Some, if◌then◌else◌, length, slice_get}
use Rattle.access_types.specs.declared.history.Mark.{Mark}
use Rattle.access_types.specs.declared.history.Mark.TheVariants as marks
use Rattle.litmus_syntax.specs.Sites.{has_access}
use Rattle.litmus_syntax.specs.Tree.{Assignment, Block, Expression, Fetch, Loading, Program, Proposition, Pure, Statement, Task}
use Rattle.litmus_syntax.specs.Tree as tree
use Rattle.litmus_syntax.specs.declared.expression.ReadForm.{ReadForm}
use Rattle.litmus_syntax.specs.declared.expression.ReadForm.TheVariants as reads
use Rattle.litmus_syntax.specs.declared.program.Contents.{Contents}
use Rattle.litmus_syntax.specs.declared.program.Contents.TheVariants.{Atomic, Char, Int, Lock, Long, Short}
use Rattle.litmus_syntax.specs.declared.program.Variable.{Variable}
use Rattle.litmus_syntax.specs.declared.statement.Call.{Call}
use Rattle.litmus_syntax.specs.declared.statement.Call.TheVariants as calls
use Rattle.litmus_syntax.specs.declared.statement.WriteForm.{WriteForm}
use Rattle.litmus_syntax.specs.declared.statement.WriteForm.TheVariants as writes

-- bytes of a file
abbrev pub file_bytes : ℕ
file_bytes = 65536

-- variables of a program
abbrev pub variables_limit : ℕ
variables_limit = 32

-- tasks of a program
abbrev pub tasks_limit : ℕ
tasks_limit = 16

-- registers of a task
abbrev pub registers_limit : ℕ
registers_limit = 32

-- statements of a task
abbrev pub statements_limit : ℕ
statements_limit = 256

-- blocks and parentheses that are open at one place
abbrev pub nesting_limit : ℕ
nesting_limit = 16

-- scoped assertions that are in force at one place
abbrev pub scoped_limit : ℕ
scoped_limit = 8

-- operators of one expression or proposition
abbrev pub operators_limit : ℕ
operators_limit = 256

-- how often the loops round a statement repeat it
abbrev pub turns_limit : ℕ
turns_limit = 256

-- how often the statements of a task that hold an access are repeated, in all
abbrev pub repeats_limit : ℕ
repeats_limit = 1024

-- the size of a check
abbrev pub check_limit : ℕ
check_limit = 1048576

-- the operators of an expression without a load
abbrev pub pure_operators : Pure → ℕ
pure_operators (tree.number n) = 0
pure_operators (tree.register r) = 0
pure_operators (tree.unary op a) = pure_operators a + 1
pure_operators (tree.binary op a b) = pure_operators a + pure_operators b + 1

-- the operators of an expression with a load, those in the load apart
abbrev pub loading_operators : Loading → ℕ
loading_operators (tree.load l) = 0
loading_operators (tree.unary_of op a) = loading_operators a + 1
loading_operators (tree.left op a b) = loading_operators a + pure_operators b + 1
loading_operators (tree.right op a b) = pure_operators a + loading_operators b + 1

abbrev pub operators : Expression → ℕ
operators (tree.pure a) = pure_operators a
operators (tree.loading a) = loading_operators a

-- the operators of a proposition
abbrev pub connectives : Proposition → ℕ
connectives tree.always = 0
connectives tree.never = 0
connectives (tree.register_is task register value) = 0
connectives (tree.variable_is variable value) = 0
connectives (tree.negation a) = connectives a + 1
connectives (tree.both a b) = connectives a + connectives b + 1
connectives (tree.either a b) = connectives a + connectives b + 1

abbrev mutual
  -- how many statements are counted
  pub statement_count : Statement → ℕ
  statement_count (tree.load_only l) = 1
  statement_count (tree.assign data_race a) = 1
  statement_count (tree.call c) = 1
  statement_count (tree.if_block condition body) = block_count body + 1
  statement_count (tree.if_else condition body otherwise) =
      block_count body + block_count otherwise + 1
  statement_count (tree.for_turns register turns body) = block_count body + 1

  pub block_count : Block → ℕ
  block_count tree.empty = 0
  block_count (tree.first s rest) = statement_count s + block_count rest

-- how often the access of a statement itself is repeated, if it has one
abbrev pub own_repeats : ℕ → Statement → ℕ
own_repeats turns s = if has_access s then turns else 0

abbrev mutual
  -- how often the accesses of a statement are repeated, in all, where the loops round it repeat it
  -- so often
  pub statement_repeats : ℕ → Statement → ℕ
  statement_repeats turns (tree.load_only l) = own_repeats turns (tree.load_only l)
  statement_repeats turns (tree.assign data_race a) = own_repeats turns (tree.assign data_race a)
  statement_repeats turns (tree.call c) = own_repeats turns (tree.call c)
  statement_repeats turns (tree.if_block condition body) =
      own_repeats turns (tree.if_block condition body) + block_repeats turns body
  statement_repeats turns (tree.if_else condition body otherwise) =
      own_repeats turns (tree.if_else condition body otherwise)
      + block_repeats turns body + block_repeats turns otherwise
  statement_repeats turns (tree.for_turns register inner body) = block_repeats (turns * inner) body

  pub block_repeats : ℕ → Block → ℕ
  block_repeats turns tree.empty = 0
  block_repeats turns (tree.first s rest) = statement_repeats turns s + block_repeats turns rest

abbrev mutual
  -- the turns of loops in loops, where the loops round a statement repeat it so often
  pub StatementTurns : ℕ → Statement → Type 0
  StatementTurns turns (tree.load_only l) = Unit {0}
  StatementTurns turns (tree.assign data_race a) = Unit {0}
  StatementTurns turns (tree.call c) = Unit {0}
  StatementTurns turns (tree.if_block condition body) = BlockTurns turns body
  StatementTurns turns (tree.if_else condition body otherwise) =
      BlockTurns turns body × BlockTurns turns otherwise
  StatementTurns turns (tree.for_turns register inner body) =
      (inner ≤ turns_limit) × ((turns * inner ≤ turns_limit) × BlockTurns (turns * inner) body)

  pub BlockTurns : ℕ → Block → Type 0
  BlockTurns turns tree.empty = Unit {0}
  BlockTurns turns (tree.first s rest) = StatementTurns turns s × BlockTurns turns rest

-- the scopes that a statement begins
abbrev pub call_scopes : Call → ℕ
call_scopes (calls.AssertWriter variable scoped) = if scoped then 1 else 0
call_scopes (calls.AssertAccess variable scoped) = if scoped then 1 else 0
call_scopes _ = 0

abbrev pub scopes_of : Statement → ℕ
scopes_of (tree.call c) = call_scopes c
scopes_of _ = 0

abbrev mutual
  -- the scopes in force, where so many are before a statement
  pub StatementScopes : ℕ → Statement → Type 0
  StatementScopes scopes (tree.load_only l) = Unit {0}
  StatementScopes scopes (tree.assign data_race a) = Unit {0}
  StatementScopes scopes (tree.call c) = scopes + call_scopes c ≤ scoped_limit
  StatementScopes scopes (tree.if_block condition body) = BlockScopes scopes body
  StatementScopes scopes (tree.if_else condition body otherwise) =
      BlockScopes scopes body × BlockScopes scopes otherwise
  StatementScopes scopes (tree.for_turns register turns body) = BlockScopes scopes body

  pub BlockScopes : ℕ → Block → Type 0
  BlockScopes scopes tree.empty = Unit {0}
  BlockScopes scopes (tree.first s rest) =
      StatementScopes scopes s × BlockScopes (scopes + scopes_of s) rest

-- the data_race( ) round the load of an expression
abbrev pub loading_rises : Loading → ℕ
loading_rises (tree.load l) = l.data_races
loading_rises (tree.unary_of op a) = loading_rises a
loading_rises (tree.left op a b) = loading_rises a
loading_rises (tree.right op a b) = loading_rises b

abbrev pub expression_rises : Expression → ℕ
expression_rises (tree.pure a) = 0
expression_rises (tree.loading a) = loading_rises a

abbrev pub assignment_rises : Assignment → ℕ
assignment_rises (tree.to_register register value) = expression_rises value
assignment_rises _ = 0

abbrev pub mark_rises : Mark → ℕ
mark_rises marks.Disable = 1
mark_rises marks.NestOpen = 1
mark_rises _ = 0

abbrev pub call_rises : Call → ℕ
call_rises (calls.Mark mark) = mark_rises mark
call_rises _ = 0

abbrev mutual
  -- how often at most a count of a task's context rises in a statement: by its marks and by
  -- data_race( ), once for each turn of the loops round these
  pub statement_rises : Statement → ℕ
  statement_rises (tree.load_only l) = l.data_races
  statement_rises (tree.assign data_race a) = (if data_race then 1 else 0) + assignment_rises a
  statement_rises (tree.call c) = call_rises c
  statement_rises (tree.if_block condition body) = expression_rises condition + block_rises body
  statement_rises (tree.if_else condition body otherwise) =
      expression_rises condition + (block_rises body + block_rises otherwise)
  statement_rises (tree.for_turns register turns body) = turns * block_rises body

  pub block_rises : Block → ℕ
  block_rises tree.empty = 0
  block_rises (tree.first s rest) = statement_rises s + block_rises rest

-- a task's body keeps the limits
pub record BodyKeepsLimits (body : Block) : Type 0 where
  pub statements : block_count body ≤ statements_limit
  pub turns : BlockTurns 1 body
  pub repeats : block_repeats 1 body ≤ repeats_limit
  pub scopes : BlockScopes 0 body

-- which variables a form of statement takes: those of `char`, `short`, `int` and `long`, of `atomic_t`,
-- of `spinlock_t`, or all but `spinlock_t`
pub data Sort : Type 0 where
  integers : Sort
  atomics : Sort
  locks : Sort
  memory : Sort

abbrev pub IsInteger : Contents → Type 0
IsInteger (Char n) = Unit {0}
IsInteger (Short n) = Unit {0}
IsInteger (Int n) = Unit {0}
IsInteger (Long n) = Unit {0}
IsInteger (Atomic n) = ⊥
IsInteger Lock = ⊥

abbrev pub IsAtomic : Contents → Type 0
IsAtomic (Char n) = ⊥
IsAtomic (Short n) = ⊥
IsAtomic (Int n) = ⊥
IsAtomic (Long n) = ⊥
IsAtomic (Atomic n) = Unit {0}
IsAtomic Lock = ⊥

abbrev pub IsLock : Contents → Type 0
IsLock (Char n) = ⊥
IsLock (Short n) = ⊥
IsLock (Int n) = ⊥
IsLock (Long n) = ⊥
IsLock (Atomic n) = ⊥
IsLock Lock = Unit {0}

abbrev pub IsOfSort : Sort → Contents → Type 0
IsOfSort integers contents = IsInteger contents
IsOfSort atomics contents = IsAtomic contents
IsOfSort locks contents = IsLock contents
IsOfSort memory contents = ¬ IsLock contents

-- the variable of a number is there and of a sort
pub record IsVariable (variables : List Variable) (sort : Sort) (number : ℕ) : Type 0 where
  pub variable : Variable
  pub stands : slice_get variables number ≡ Some variable
  pub of_sort : IsOfSort sort variable.contents

-- which variables the forms of reads and of writes take
abbrev pub read_takes : ReadForm → Sort
read_takes reads.Plain = integers
read_takes reads.Once = integers
read_takes reads.Acquire = integers
read_takes reads.Atomic = atomics

abbrev pub write_takes : WriteForm → Sort
write_takes writes.Plain = integers
write_takes writes.Once = integers
write_takes writes.Release = integers
write_takes writes.Atomic = atomics

-- Each variable that a text names is of the sort that its place takes, each register is one of so many, and no
-- check is too long.
module _ (Has : Sort → ℕ → Type 0) (registers : ℕ) where
  abbrev pub PureTyped : Pure → Type 0
  PureTyped (tree.number n) = Unit {0}
  PureTyped (tree.register r) = r < registers
  PureTyped (tree.unary op a) = PureTyped a
  PureTyped (tree.binary op a b) = PureTyped a × PureTyped b

  abbrev pub FetchTyped : Fetch → Type 0
  FetchTyped (tree.read form x) = Has (read_takes form) x
  FetchTyped (tree.exchange x e) = Has integers x × PureTyped e
  FetchTyped (tree.compare_exchange x e f) = Has integers x × (PureTyped e × PureTyped f)

  abbrev pub LoadingTyped : Loading → Type 0
  LoadingTyped (tree.load l) = FetchTyped l.fetch
  LoadingTyped (tree.unary_of op a) = LoadingTyped a
  LoadingTyped (tree.left op a b) = LoadingTyped a × PureTyped b
  LoadingTyped (tree.right op a b) = PureTyped a × LoadingTyped b

  abbrev pub ExpressionTyped : Expression → Type 0
  ExpressionTyped (tree.pure a) = PureTyped a
  ExpressionTyped (tree.loading a) = LoadingTyped a

  abbrev pub AssignmentTyped : Assignment → Type 0
  AssignmentTyped (tree.to_register r e) = (r < registers) × ExpressionTyped e
  AssignmentTyped (tree.write form x e) = Has (write_takes form) x × PureTyped e
  AssignmentTyped (tree.add x e) = Has integers x × PureTyped e
  AssignmentTyped (tree.increment x) = Has integers x
  AssignmentTyped (tree.atomic_add e x) = PureTyped e × Has atomics x
  AssignmentTyped (tree.atomic_increment x) = Has atomics x
  AssignmentTyped (tree.atomic_decrement x) = Has atomics x

  abbrev pub CallTyped : Call → Type 0
  CallTyped (calls.Barrier b) = Unit {0}
  CallTyped (calls.Lock l) = Has locks l
  CallTyped (calls.Unlock l) = Has locks l
  CallTyped (calls.AssertWriter x scoped) = Has memory x
  CallTyped (calls.AssertAccess x scoped) = Has memory x
  CallTyped (calls.AssertBits x mask) = Has memory x
  CallTyped (calls.Mark mark) = Unit {0}
  CallTyped (calls.Check write x size) = Has memory x × (size ≤ check_limit)

  abbrev mutual
    pub StatementTyped : Statement → Type 0
    StatementTyped (tree.load_only l) = FetchTyped l.fetch
    StatementTyped (tree.assign data_race a) = AssignmentTyped a
    StatementTyped (tree.call c) = CallTyped c
    StatementTyped (tree.if_block condition body) = ExpressionTyped condition × BlockTyped body
    StatementTyped (tree.if_else condition body otherwise) =
        ExpressionTyped condition × (BlockTyped body × BlockTyped otherwise)
    StatementTyped (tree.for_turns r turns body) = (r < registers) × BlockTyped body

    pub BlockTyped : Block → Type 0
    BlockTyped tree.empty = Unit {0}
    BlockTyped (tree.first s rest) = StatementTyped s × BlockTyped rest

-- a task over these variables keeps the limits and the rules of types; no count of its context rises more
-- than 2^32 times
pub record TaskKeepsLimits (variables : List Variable) (task : Task) : Type 0 where
  pub registers : length task.registers ≤ registers_limit
  pub body : BodyKeepsLimits task.body
  pub rises : block_rises task.body ≤ 2 ^ 32
  pub typed : BlockTyped (IsVariable variables) (length task.registers) task.body

-- no two variables have one name
abbrev pub HaveOwnNames : List Variable → Type 0
HaveOwnNames variables = AllPairs (λ variable later. variable.name ≢ later.name) variables

-- a program keeps the limits and the rules of types, and no two of its variables have one name
pub record KeepsLimits (program : Program) : Type 0 where
  pub some_task : 0 < length program.tasks
  pub tasks : length program.tasks ≤ tasks_limit
  pub variables : length program.variables ≤ variables_limit
  pub names : HaveOwnNames program.variables
  pub each_task : All (TaskKeepsLimits program.variables) program.tasks
