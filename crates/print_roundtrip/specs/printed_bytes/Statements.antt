-- Statements whose names and numbers a text can have.
use Rattle.std.specs.Prelude.{List}
use Rattle.access_types.specs.declared.history.Mark.{Mark}
use Rattle.access_types.specs.declared.history.Mark.TheVariants.{Disable, Enable, NestOpen, NestClose, FlatBegin, FlatEnd, Next}
use Rattle.litmus_syntax.specs.declared.program.Variable.{Variable}
use Rattle.litmus_syntax.specs.declared.statement.Call.{Call}
use Rattle.litmus_syntax.specs.declared.statement.Call.TheVariants as calls
use Rattle.litmus_syntax.specs.PrintedForm.{name_at}
use Rattle.litmus_syntax.specs.Tree.{Assignment, Statement, Block}
use Rattle.litmus_syntax.specs.Tree as tree
use Rattle.litmus_expression.specs.Names.{Names}
use Rattle.print_roundtrip.specs.printed_bytes.Reads.{IsIdentifier}
use Rattle.print_roundtrip.specs.printed_bytes.Expressions.{ExpressionIsSpelled, IsNamed, IsShort, LoadIsSpelled, PureIsSpelled}

abbrev pub AssignmentIsSpelled : List Variable → Names → Assignment → Type 0
AssignmentIsSpelled variables registers (tree.to_register r e) =
    IsIdentifier (name_at registers r) × ExpressionIsSpelled variables registers e
AssignmentIsSpelled variables registers (tree.write form x e) = IsNamed variables x × PureIsSpelled registers e
AssignmentIsSpelled variables registers (tree.add x e) = IsNamed variables x × PureIsSpelled registers e
AssignmentIsSpelled variables registers (tree.increment x) = IsNamed variables x
AssignmentIsSpelled variables registers (tree.atomic_add e x) = IsNamed variables x × PureIsSpelled registers e
AssignmentIsSpelled variables registers (tree.atomic_increment x) = IsNamed variables x
AssignmentIsSpelled variables registers (tree.atomic_decrement x) = IsNamed variables x

abbrev pub MarkIsSpelled : Mark → Type 0
MarkIsSpelled (Next n) = IsShort n
MarkIsSpelled Disable = Unit {0}
MarkIsSpelled Enable = Unit {0}
MarkIsSpelled NestOpen = Unit {0}
MarkIsSpelled NestClose = Unit {0}
MarkIsSpelled FlatBegin = Unit {0}
MarkIsSpelled FlatEnd = Unit {0}

abbrev pub CallIsSpelled : List Variable → Call → Type 0
CallIsSpelled variables (calls.Barrier b) = Unit {0}
CallIsSpelled variables (calls.Lock l) = IsNamed variables l
CallIsSpelled variables (calls.Unlock l) = IsNamed variables l
CallIsSpelled variables (calls.AssertWriter x scoped) = IsNamed variables x
CallIsSpelled variables (calls.AssertAccess x scoped) = IsNamed variables x
CallIsSpelled variables (calls.AssertBits x mask) = IsNamed variables x × IsShort mask
CallIsSpelled variables (calls.Mark m) = MarkIsSpelled m
CallIsSpelled variables (calls.Check write x size) = IsNamed variables x × IsShort size

abbrev mutual
  pub StatementIsSpelled : List Variable → Names → Statement → Type 0
  StatementIsSpelled variables registers (tree.load_only l) = LoadIsSpelled variables registers l
  StatementIsSpelled variables registers (tree.assign data_race a) = AssignmentIsSpelled variables registers a
  StatementIsSpelled variables registers (tree.call c) = CallIsSpelled variables c
  StatementIsSpelled variables registers (tree.if_block e body) =
      ExpressionIsSpelled variables registers e × BlockIsSpelled variables registers body
  StatementIsSpelled variables registers (tree.if_else e body otherwise) =
      ExpressionIsSpelled variables registers e
      × (BlockIsSpelled variables registers body × BlockIsSpelled variables registers otherwise)
  StatementIsSpelled variables registers (tree.for_turns r turns body) =
      IsIdentifier (name_at registers r) × (IsShort turns × BlockIsSpelled variables registers body)

  pub BlockIsSpelled : List Variable → Names → Block → Type 0
  BlockIsSpelled variables registers tree.empty = Unit {0}
  BlockIsSpelled variables registers (tree.first s more) =
      StatementIsSpelled variables registers s × BlockIsSpelled variables registers more
