-- The printed form of a litmus program.
use Rattle.std.specs.Prelude.{ℕ, zero, suc, ◌+◌, Bool, List, [], ◌∷◌, ◌++◌, Option, Some, None, codes, option_map, unwrap_or, slice_get, if◌then◌else◌}
use Rattle.std.specs.Fmt.{decimal, signed_decimal}
use Rattle.access_types.specs.declared.history.Mark.{Mark}
use Rattle.access_types.specs.declared.history.Mark.TheVariants.{Disable, Enable, NestOpen, NestClose, FlatBegin, FlatEnd, Next}
use Rattle.litmus_syntax.specs.Tree.{Pure, Fetch, Load, Loading, Expression, Assignment, Statement, Block, Proposition, Task, Program}
use Rattle.litmus_syntax.specs.Tree as tree
use Rattle.litmus_syntax.specs.declared.expression.UnaryOperator.{UnaryOperator}
use Rattle.litmus_syntax.specs.declared.expression.UnaryOperator.TheVariants.{Negate, Not, Complement}
use Rattle.litmus_syntax.specs.declared.expression.BinaryOperator.{BinaryOperator}
use Rattle.litmus_syntax.specs.declared.expression.BinaryOperator.TheVariants.{Multiply, Add, Subtract, Less, Greater, LessOrEqual, GreaterOrEqual, Equal, NotEqual, BitAnd, BitXor, BitOr}
use Rattle.litmus_syntax.specs.declared.expression.ReadForm.{ReadForm}
use Rattle.litmus_syntax.specs.declared.expression.ReadForm.TheVariants as reads
use Rattle.litmus_syntax.specs.declared.statement.WriteForm.{WriteForm}
use Rattle.litmus_syntax.specs.declared.statement.WriteForm.TheVariants as writes
use Rattle.litmus_syntax.specs.declared.statement.Barrier.{Barrier}
use Rattle.litmus_syntax.specs.declared.statement.Barrier.TheVariants as barriers
use Rattle.litmus_syntax.specs.declared.statement.Call.{Call}
use Rattle.litmus_syntax.specs.declared.statement.Call.TheVariants as calls
use Rattle.litmus_syntax.specs.declared.program.Contents.{Contents}
use Rattle.litmus_syntax.specs.declared.program.Contents.TheVariants.{Char, Short, Int, Long, Atomic, Lock}
use Rattle.litmus_syntax.specs.declared.program.Variable.{Variable}
use Rattle.litmus_syntax.specs.declared.proposition.Quantifier.{Quantifier}
use Rattle.litmus_syntax.specs.declared.proposition.Quantifier.TheVariants.{Exists, NotExists, Forall}

-- one text after the other; three and more are grouped from the right
infixr 5 ◌⧺◌
abbrev pub ◌⧺◌ : List ℕ → List ℕ → List ℕ
a ⧺ b = a ++ b

-- a text so many times
abbrev pub repeated : ℕ → List ℕ → List ℕ
repeated zero text = []
repeated (suc n) text = repeated n text ⧺ text

-- texts after others, each behind ", "
abbrev pub continued : List (List ℕ) → List ℕ
continued [] = []
continued (text ∷ more) = codes ", " ⧺ text ⧺ continued more

-- texts, with ", " between two
abbrev pub listed : List (List ℕ) → List ℕ
listed [] = []
listed (text ∷ more) = text ⧺ continued more

-- a line behind tabs
abbrev pub line : List ℕ → List ℕ → List ℕ
line tabs text = tabs ⧺ text ⧺ codes "\n"

abbrev pub parenthesized : List ℕ → List ℕ
parenthesized text = codes "(" ⧺ text ⧺ codes ")"

abbrev pub unary_sign : UnaryOperator → List ℕ
unary_sign Negate = codes "-"
unary_sign Not = codes "!"
unary_sign Complement = codes "~"

abbrev pub binary_sign : BinaryOperator → List ℕ
binary_sign Multiply = codes "*"
binary_sign Add = codes "+"
binary_sign Subtract = codes "-"
binary_sign Less = codes "<"
binary_sign Greater = codes ">"
binary_sign LessOrEqual = codes "<="
binary_sign GreaterOrEqual = codes ">="
binary_sign Equal = codes "=="
binary_sign NotEqual = codes "!="
binary_sign BitAnd = codes "&"
binary_sign BitXor = codes "^"
binary_sign BitOr = codes "|"

-- an operator between two texts, with one blank on each side
abbrev pub joined : List ℕ → List ℕ → List ℕ → List ℕ
joined a sign b = parenthesized (a ⧺ codes " " ⧺ sign ⧺ codes " " ⧺ b)

-- the name of a number; one that isn't there has an empty name
abbrev pub name_at : List (List ℕ) → ℕ → List ℕ
name_at names n = unwrap_or (slice_get names n) []

abbrev pub variable_name : List Variable → ℕ → List ℕ
variable_name variables n = unwrap_or (option_map (λ v. v.name) (slice_get variables n)) []

-- an expression without a load, over registers of these names: each compound one has parentheses
abbrev pub pure_text : List (List ℕ) → Pure → List ℕ
pure_text registers (tree.number n) = decimal n
pure_text registers (tree.register r) = name_at registers r
pure_text registers (tree.unary op e) = parenthesized (unary_sign op ⧺ pure_text registers e)
pure_text registers (tree.binary op a b) =
    joined (pure_text registers a) (binary_sign op) (pure_text registers b)

abbrev pub read_text : ReadForm → List ℕ → List ℕ
read_text reads.Plain x = codes "*" ⧺ x
read_text reads.Once x = codes "READ_ONCE(*" ⧺ x ⧺ codes ")"
read_text reads.Acquire x = codes "smp_load_acquire(" ⧺ x ⧺ codes ")"
read_text reads.Atomic x = codes "atomic_read(" ⧺ x ⧺ codes ")"

abbrev pub write_text : WriteForm → List ℕ → List ℕ → List ℕ
write_text writes.Plain x e = codes "*" ⧺ x ⧺ codes " = " ⧺ e
write_text writes.Once x e = codes "WRITE_ONCE(*" ⧺ x ⧺ codes ", " ⧺ e ⧺ codes ")"
write_text writes.Release x e = codes "smp_store_release(" ⧺ x ⧺ codes ", " ⧺ e ⧺ codes ")"
write_text writes.Atomic x e = codes "atomic_set(" ⧺ x ⧺ codes ", " ⧺ e ⧺ codes ")"

abbrev pub barrier_name : Barrier → List ℕ
barrier_name barriers.Full = codes "smp_mb"
barrier_name barriers.Read = codes "smp_rmb"
barrier_name barriers.Write = codes "smp_wmb"
barrier_name barriers.BeforeAtomic = codes "smp_mb__before_atomic"
barrier_name barriers.AfterAtomic = codes "smp_mb__after_atomic"
barrier_name barriers.AfterSpinlock = codes "smp_mb__after_spinlock"
barrier_name barriers.AfterUnlockLock = codes "smp_mb__after_unlock_lock"

abbrev pub mark_text : Mark → List ℕ
mark_text Disable = codes "kcsan_disable_current()"
mark_text Enable = codes "kcsan_enable_current()"
mark_text NestOpen = codes "kcsan_nestable_atomic_begin()"
mark_text NestClose = codes "kcsan_nestable_atomic_end()"
mark_text FlatBegin = codes "kcsan_flat_atomic_begin()"
mark_text FlatEnd = codes "kcsan_flat_atomic_end()"
mark_text (Next n) = codes "kcsan_atomic_next(" ⧺ decimal n ⧺ codes ")"

-- the suffix of an assertion that holds to the end of its block
abbrev pub scope_suffix : Bool → List ℕ
scope_suffix scoped = if scoped then codes "_SCOPED" else []

abbrev pub check_function : Bool → List ℕ
check_function is_write = if is_write then codes "kcsan_check_write" else codes "kcsan_check_read"

-- an assignment, inside data_race( ) or not
abbrev pub assign_text : Bool → List ℕ → List ℕ
assign_text data_race text = if data_race then codes "data_race(" ⧺ text ⧺ codes ")" else text

-- the first line of an if and of a loop
abbrev pub if_head : List ℕ → List ℕ
if_head condition = codes "if (" ⧺ condition ⧺ codes ") {"

abbrev pub for_head : List ℕ → ℕ → List ℕ
for_head i turns =
    codes "for (" ⧺ i ⧺ codes " = 0; " ⧺ i ⧺ codes " < " ⧺ decimal turns ⧺ codes "; "
    ⧺ i ⧺ codes "++) {"

module _ (variables : List Variable) where
  abbrev pub call_text : Call → List ℕ
  call_text (calls.Barrier b) = barrier_name b ⧺ codes "()"
  call_text (calls.Lock l) = codes "spin_lock(" ⧺ variable_name variables l ⧺ codes ")"
  call_text (calls.Unlock l) = codes "spin_unlock(" ⧺ variable_name variables l ⧺ codes ")"
  call_text (calls.AssertWriter x scoped) =
      codes "ASSERT_EXCLUSIVE_WRITER" ⧺ scope_suffix scoped
      ⧺ codes "(*" ⧺ variable_name variables x ⧺ codes ")"
  call_text (calls.AssertAccess x scoped) =
      codes "ASSERT_EXCLUSIVE_ACCESS" ⧺ scope_suffix scoped
      ⧺ codes "(*" ⧺ variable_name variables x ⧺ codes ")"
  call_text (calls.AssertBits x mask) =
      codes "ASSERT_EXCLUSIVE_BITS(*" ⧺ variable_name variables x
      ⧺ codes ", " ⧺ decimal mask ⧺ codes ")"
  call_text (calls.Mark m) = mark_text m
  call_text (calls.Check is_write x size) =
      check_function is_write
      ⧺ codes "(" ⧺ variable_name variables x ⧺ codes ", " ⧺ decimal size ⧺ codes ")"

module _ (variables : List Variable) (registers : List (List ℕ)) where
  abbrev pub fetch_text : Fetch → List ℕ
  fetch_text (tree.read form x) = read_text form (variable_name variables x)
  fetch_text (tree.exchange x e) =
      codes "xchg(" ⧺ variable_name variables x ⧺ codes ", " ⧺ pure_text registers e ⧺ codes ")"
  fetch_text (tree.compare_exchange x e f) =
      codes "cmpxchg(" ⧺ variable_name variables x
      ⧺ codes ", " ⧺ pure_text registers e ⧺ codes ", " ⧺ pure_text registers f ⧺ codes ")"

  abbrev pub load_text : Load → List ℕ
  load_text l =
      repeated l.data_races (codes "data_race(")
      ⧺ fetch_text l.fetch ⧺ repeated l.data_races (codes ")")

  abbrev pub loading_text : Loading → List ℕ
  loading_text (tree.load l) = load_text l
  loading_text (tree.unary_of op e) = parenthesized (unary_sign op ⧺ loading_text e)
  loading_text (tree.left op a b) = joined (loading_text a) (binary_sign op) (pure_text registers b)
  loading_text (tree.right op a b) =
      joined (pure_text registers a) (binary_sign op) (loading_text b)

  abbrev pub expression_text : Expression → List ℕ
  expression_text (tree.pure e) = pure_text registers e
  expression_text (tree.loading e) = loading_text e

  abbrev pub assignment_text : Assignment → List ℕ
  assignment_text (tree.to_register r e) = name_at registers r ⧺ codes " = " ⧺ expression_text e
  assignment_text (tree.write form x e) =
      write_text form (variable_name variables x) (pure_text registers e)
  assignment_text (tree.add x e) =
      codes "*" ⧺ variable_name variables x ⧺ codes " += " ⧺ pure_text registers e
  assignment_text (tree.increment x) = codes "(*" ⧺ variable_name variables x ⧺ codes ")++"
  assignment_text (tree.atomic_add e x) =
      codes "atomic_add(" ⧺ pure_text registers e
      ⧺ codes ", " ⧺ variable_name variables x ⧺ codes ")"
  assignment_text (tree.atomic_increment x) =
      codes "atomic_inc(" ⧺ variable_name variables x ⧺ codes ")"
  assignment_text (tree.atomic_decrement x) =
      codes "atomic_dec(" ⧺ variable_name variables x ⧺ codes ")"

  abbrev mutual
    -- the lines of a statement, behind a tab for each open block
    pub statement_text : List ℕ → Statement → List ℕ
    statement_text tabs (tree.load_only l) = line tabs (load_text l ⧺ codes ";")
    statement_text tabs (tree.assign data_race a) =
        line tabs (assign_text data_race (assignment_text a) ⧺ codes ";")
    statement_text tabs (tree.call c) = line tabs (call_text variables c ⧺ codes ";")
    statement_text tabs (tree.if_block e body) =
        line tabs (if_head (expression_text e))
        ⧺ block_text (tabs ⧺ codes "\t") body
        ⧺ line tabs (codes "}")
    statement_text tabs (tree.if_else e body otherwise) =
        line tabs (if_head (expression_text e))
        ⧺ block_text (tabs ⧺ codes "\t") body
        ⧺ line tabs (codes "} else {")
        ⧺ block_text (tabs ⧺ codes "\t") otherwise
        ⧺ line tabs (codes "}")
    statement_text tabs (tree.for_turns r turns body) =
        line tabs (for_head (name_at registers r) turns)
        ⧺ block_text (tabs ⧺ codes "\t") body
        ⧺ line tabs (codes "}")

    pub block_text : List ℕ → Block → List ℕ
    block_text tabs tree.empty = []
    block_text tabs (tree.first s rest) = statement_text tabs s ⧺ block_text tabs rest

abbrev pub type_name : Contents → List ℕ
type_name (Char n) = codes "char"
type_name (Short n) = codes "short"
type_name (Int n) = codes "int"
type_name (Long n) = codes "long"
type_name (Atomic n) = codes "atomic_t"
type_name Lock = codes "spinlock_t"

-- the initial value of a variable; a lock has none
abbrev pub initial_text : Contents → List ℕ
initial_text (Char n) = codes " = " ⧺ signed_decimal n
initial_text (Short n) = codes " = " ⧺ signed_decimal n
initial_text (Int n) = codes " = " ⧺ signed_decimal n
initial_text (Long n) = codes " = " ⧺ signed_decimal n
initial_text (Atomic n) = codes " = " ⧺ signed_decimal n
initial_text Lock = []

-- a variable in the initialization block, after a blank
abbrev pub item_text : Variable → List ℕ
item_text v =
    codes " " ⧺ type_name v.contents ⧺ codes " " ⧺ v.name ⧺ initial_text v.contents ⧺ codes ";"

abbrev pub items_text : List Variable → List ℕ
items_text [] = []
items_text (v ∷ more) = item_text v ⧺ items_text more

-- a parameter that is this variable; one that isn't there has an empty text
abbrev pub parameter_of : Option Variable → List ℕ
parameter_of None = []
parameter_of (Some v) = type_name v.contents ⧺ codes " *" ⧺ v.name

abbrev pub parameter_text : List Variable → ℕ → List ℕ
parameter_text variables n = parameter_of (slice_get variables n)

abbrev pub parameter_texts : List Variable → List ℕ → List (List ℕ)
parameter_texts variables [] = []
parameter_texts variables (n ∷ more) = parameter_text variables n ∷ parameter_texts variables more

-- the line of a register, in the one open block of its task
abbrev pub declaration : List ℕ → List ℕ
declaration r = line (codes "\t") (codes "int " ⧺ r ⧺ codes ";")

-- a line for each register
abbrev pub declarations : List (List ℕ) → List ℕ
declarations [] = []
declarations (r ∷ more) = declaration r ⧺ declarations more

-- a task of a number
abbrev pub task_text : List Variable → ℕ → Task → List ℕ
task_text variables k t =
    codes "P" ⧺ decimal k
    ⧺ codes "(" ⧺ listed (parameter_texts variables t.parameters) ⧺ codes ")\n{\n"
    ⧺ declarations t.registers ⧺ block_text variables t.registers (codes "\t") t.body ⧺ codes "}\n"

-- tasks, from a number on
abbrev pub tasks_text : List Variable → ℕ → List Task → List ℕ
tasks_text variables k [] = []
tasks_text variables k (t ∷ more) = task_text variables k t ⧺ tasks_text variables (k + 1) more

-- the names of the registers of a task; a task that isn't there has none
abbrev pub registers_of : List Task → ℕ → List (List ℕ)
registers_of tasks k = unwrap_or (option_map (λ t. t.registers) (slice_get tasks k)) []

-- a proposition: each compound one stands in parentheses, and no atom does
abbrev pub proposition_text : List Variable → List Task → Proposition → List ℕ
proposition_text variables tasks tree.always = codes "true"
proposition_text variables tasks tree.never = codes "false"
proposition_text variables tasks (tree.register_is k r n) =
    decimal k ⧺ codes ":" ⧺ name_at (registers_of tasks k) r ⧺ codes "=" ⧺ decimal n
proposition_text variables tasks (tree.variable_is x n) =
    variable_name variables x ⧺ codes "=" ⧺ decimal n
proposition_text variables tasks (tree.negation p) =
    parenthesized (codes "~" ⧺ proposition_text variables tasks p)
proposition_text variables tasks (tree.both p q) =
    joined (proposition_text variables tasks p) (codes "/\\") (proposition_text variables tasks q)
proposition_text variables tasks (tree.either p q) =
    joined (proposition_text variables tasks p) (codes "\\/") (proposition_text variables tasks q)

abbrev pub quantifier_text : Quantifier → List ℕ
quantifier_text Exists = codes "exists"
quantifier_text NotExists = codes "~exists"
quantifier_text Forall = codes "forall"

-- the first line, with the test's name
abbrev pub name_line : List ℕ → List ℕ
name_line name = codes "C " ⧺ name ⧺ codes "\n"

-- the initialization block
abbrev pub initialization_line : List Variable → List ℕ
initialization_line variables = codes "{" ⧺ items_text variables ⧺ codes " }\n"

-- the last line
abbrev pub condition_line : Quantifier → List ℕ → List ℕ
condition_line quantifier proposition =
    quantifier_text quantifier ⧺ codes " " ⧺ proposition ⧺ codes "\n"

-- a program
abbrev pub printed : Program → List ℕ
printed p =
    name_line p.name ⧺ initialization_line p.variables ⧺ tasks_text p.variables 0 p.tasks
    ⧺ condition_line p.quantifier (proposition_text p.variables p.tasks p.condition)
