-- Bodies whose numbers are those of tokens have names and numbers that a text can have, where their variables and
-- registers do.
use Rattle.std.proofs.Common.{◌<◌, ℕ, List, length}
use Rattle.access_types.specs.declared.history.Mark.{Mark}
use Rattle.access_types.specs.declared.history.Mark.TheVariants as marks
use Rattle.litmus_syntax.specs.declared.program.Variable.{Variable}
use Rattle.litmus_syntax.specs.declared.statement.Call.{Call}
use Rattle.litmus_syntax.specs.declared.statement.Call.TheVariants as calls
use Rattle.litmus_syntax.specs.Limits.{AssignmentTyped, BlockTyped, CallTyped, ExpressionTyped, FetchTyped, IsVariable, LoadingTyped, PureTyped, Sort}
use Rattle.litmus_syntax.specs.Limits.{StatementTyped, atomics, integers, locks, memory, read_takes, write_takes}
use Rattle.litmus_syntax.specs.PrintedForm.{name_at}
use Rattle.litmus_syntax.specs.Tree as tree
use Rattle.litmus_expression.specs.Names.{Names}
use Rattle.litmus_parse.proofs.NamesSpelled.{AssignmentHas, BlockHas, CallHas, ExpressionHas, FetchHas, LoadingHas, MarkHas, PureHas, StatementHas}
use Rattle.print_roundtrip.specs.printed_bytes.Expressions.{ExpressionIsSpelled, FetchIsSpelled, IsNamed, IsShort, LoadingIsSpelled, PureIsSpelled}
use Rattle.print_roundtrip.specs.printed_bytes.Reads.{IsIdentifier}
use Rattle.print_roundtrip.specs.printed_bytes.Statements.{AssignmentIsSpelled, BlockIsSpelled, CallIsSpelled, MarkIsSpelled, StatementIsSpelled}

module _ (variables : List Variable) (registers : Names)
    (named : (sort : Sort) (x : ℕ) → IsVariable variables sort x → IsNamed variables x)
    (called : (r : ℕ) → r < length registers → IsIdentifier (name_at registers r)) where
  pure_spelled : (a : tree.Pure) → PureHas IsIdentifier IsShort a → PureTyped (IsVariable variables) (length registers) a
      → PureIsSpelled registers a
  pure_spelled (tree.number n) has typed = has
  pure_spelled (tree.register r) has typed = called r typed
  pure_spelled (tree.unary op a) has typed = pure_spelled a has typed
  pure_spelled (tree.binary op a b) has typed = (pure_spelled a has.0 typed.0, pure_spelled b has.1 typed.1)

  fetch_spelled : (f : tree.Fetch) → FetchHas IsIdentifier IsShort f → FetchTyped (IsVariable variables) (length registers) f
      → FetchIsSpelled variables registers f
  fetch_spelled (tree.read form x) has typed = named (read_takes form) x typed
  fetch_spelled (tree.exchange x a) has typed = (named integers x typed.0, pure_spelled a has typed.1)
  fetch_spelled (tree.compare_exchange x a b) has typed =
      (named integers x typed.0, (pure_spelled a has.0 typed.1.0, pure_spelled b has.1 typed.1.1))

  loading_spelled : (a : tree.Loading) → LoadingHas IsIdentifier IsShort a → LoadingTyped (IsVariable variables) (length registers) a
      → LoadingIsSpelled variables registers a
  loading_spelled (tree.load l) has typed = fetch_spelled l.fetch has typed
  loading_spelled (tree.unary_of op a) has typed = loading_spelled a has typed
  loading_spelled (tree.left op a b) has typed = (loading_spelled a has.0 typed.0, pure_spelled b has.1 typed.1)
  loading_spelled (tree.right op a b) has typed = (pure_spelled a has.0 typed.0, loading_spelled b has.1 typed.1)

  expression_spelled : (e : tree.Expression) → ExpressionHas IsIdentifier IsShort e
      → ExpressionTyped (IsVariable variables) (length registers) e → ExpressionIsSpelled variables registers e
  expression_spelled (tree.pure a) has typed = pure_spelled a has typed
  expression_spelled (tree.loading a) has typed = loading_spelled a has typed

  assignment_spelled : (a : tree.Assignment) → AssignmentHas IsIdentifier IsShort a
      → AssignmentTyped (IsVariable variables) (length registers) a → AssignmentIsSpelled variables registers a
  assignment_spelled (tree.to_register r e) has typed = (called r typed.0, expression_spelled e has typed.1)
  assignment_spelled (tree.write form x e) has typed = (named (write_takes form) x typed.0, pure_spelled e has typed.1)
  assignment_spelled (tree.add x e) has typed = (named integers x typed.0, pure_spelled e has typed.1)
  assignment_spelled (tree.increment x) has typed = named integers x typed
  assignment_spelled (tree.atomic_add e x) has typed = (named atomics x typed.1, pure_spelled e has typed.0)
  assignment_spelled (tree.atomic_increment x) has typed = named atomics x typed
  assignment_spelled (tree.atomic_decrement x) has typed = named atomics x typed

  mark_spelled : (m : Mark) → MarkHas IsIdentifier IsShort m → MarkIsSpelled m
  mark_spelled (marks.Next n) has = has
  mark_spelled marks.Disable has = tt
  mark_spelled marks.Enable has = tt
  mark_spelled marks.NestOpen has = tt
  mark_spelled marks.NestClose has = tt
  mark_spelled marks.FlatBegin has = tt
  mark_spelled marks.FlatEnd has = tt

  call_spelled : (c : Call) → CallHas IsIdentifier IsShort c → CallTyped (IsVariable variables) (length registers) c
      → CallIsSpelled variables c
  call_spelled (calls.Barrier b) has typed = tt
  call_spelled (calls.Lock l) has typed = named locks l typed
  call_spelled (calls.Unlock l) has typed = named locks l typed
  call_spelled (calls.AssertWriter x scoped) has typed = named memory x typed
  call_spelled (calls.AssertAccess x scoped) has typed = named memory x typed
  call_spelled (calls.AssertBits x mask) has typed = (named memory x typed, has)
  call_spelled (calls.Mark m) has typed = mark_spelled m has
  call_spelled (calls.Check write x size) has typed = (named memory x typed.0, has)

  mutual
    statement_spelled : (s : tree.Statement) → StatementHas IsIdentifier IsShort s
        → StatementTyped (IsVariable variables) (length registers) s → StatementIsSpelled variables registers s
    statement_spelled (tree.load_only l) has typed = fetch_spelled l.fetch has typed
    statement_spelled (tree.assign data_race a) has typed = assignment_spelled a has typed
    statement_spelled (tree.call c) has typed = call_spelled c has typed
    statement_spelled (tree.if_block e body) has typed = (expression_spelled e has.0 typed.0, block_spelled body has.1 typed.1)
    statement_spelled (tree.if_else e body otherwise) has typed = (
      expression_spelled e has.0 typed.0,
      (block_spelled body has.1.0 typed.1.0, block_spelled otherwise has.1.1 typed.1.1),
    )
    statement_spelled (tree.for_turns r turns body) has typed =
        (called r typed.0, (has.0, block_spelled body has.1 typed.1))

    pub block_spelled : (b : tree.Block) → BlockHas IsIdentifier IsShort b
        → BlockTyped (IsVariable variables) (length registers) b → BlockIsSpelled variables registers b
    block_spelled tree.empty has typed = tt
    block_spelled (tree.first s more) has typed = (statement_spelled s has.0 typed.0, block_spelled more has.1 typed.1)
