-- The nesting of the printed form: each compound expression stands in parentheses, and each body in braces.
use Rattle.std.specs.Prelude.{◌<◌, ℕ, suc}
use Rattle.litmus_syntax.specs.Limits.{nesting_limit}
use Rattle.litmus_syntax.specs.Tree.{Pure, Fetch, Loading, Expression, Assignment, Statement, Block}
use Rattle.litmus_syntax.specs.Tree as tree

-- an expression keeps the limit, where so many blocks and parentheses are open round it
abbrev pub PureNests : ℕ → Pure → Type 0
PureNests depth (tree.number n) = Unit {0}
PureNests depth (tree.register r) = Unit {0}
PureNests depth (tree.unary op e) = (depth < nesting_limit) × PureNests (suc depth) e
PureNests depth (tree.binary op a b) = (depth < nesting_limit) × (PureNests (suc depth) a × PureNests (suc depth) b)

abbrev pub FetchNests : ℕ → Fetch → Type 0
FetchNests depth (tree.read form x) = Unit {0}
FetchNests depth (tree.exchange x e) = PureNests depth e
FetchNests depth (tree.compare_exchange x e f) = PureNests depth e × PureNests depth f

abbrev pub LoadingNests : ℕ → Loading → Type 0
LoadingNests depth (tree.load l) = FetchNests depth l.fetch
LoadingNests depth (tree.unary_of op e) = (depth < nesting_limit) × LoadingNests (suc depth) e
LoadingNests depth (tree.left op a b) = (depth < nesting_limit) × (LoadingNests (suc depth) a × PureNests (suc depth) b)
LoadingNests depth (tree.right op a b) = (depth < nesting_limit) × (PureNests (suc depth) a × LoadingNests (suc depth) b)

abbrev pub ExpressionNests : ℕ → Expression → Type 0
ExpressionNests depth (tree.pure e) = PureNests depth e
ExpressionNests depth (tree.loading e) = LoadingNests depth e

abbrev pub AssignmentNests : ℕ → Assignment → Type 0
AssignmentNests depth (tree.to_register r e) = ExpressionNests depth e
AssignmentNests depth (tree.write form x e) = PureNests depth e
AssignmentNests depth (tree.add x e) = PureNests depth e
AssignmentNests depth (tree.increment x) = Unit {0}
AssignmentNests depth (tree.atomic_add e x) = PureNests depth e
AssignmentNests depth (tree.atomic_increment x) = Unit {0}
AssignmentNests depth (tree.atomic_decrement x) = Unit {0}

abbrev mutual
  -- a statement keeps the limit
  pub StatementNests : ℕ → Statement → Type 0
  StatementNests depth (tree.load_only l) = FetchNests depth l.fetch
  StatementNests depth (tree.assign data_race a) = AssignmentNests depth a
  StatementNests depth (tree.call c) = Unit {0}
  StatementNests depth (tree.if_block e body) = ExpressionNests depth e × ((depth < nesting_limit) × BlockNests (suc depth) body)
  StatementNests depth (tree.if_else e body otherwise) =
      ExpressionNests depth e × ((depth < nesting_limit) × (BlockNests (suc depth) body × BlockNests (suc depth) otherwise))
  StatementNests depth (tree.for_turns r turns body) = (depth < nesting_limit) × BlockNests (suc depth) body

  pub BlockNests : ℕ → Block → Type 0
  BlockNests depth tree.empty = Unit {0}
  BlockNests depth (tree.first s rest) = StatementNests depth s × BlockNests depth rest
