-- Statements that are read one after the other.
use Rattle.std.proofs.Common.{◌≡◌, List, [], ◌∷◌, ◌++◌, refl, ap}
use Rattle.litmus_syntax.specs.Tree as tree
use Rattle.litmus_syntax.specs.Views.{block_of, statement_of}
use Rattle.litmus_syntax.specs.declared.statement.Statement.{Statement}
use Rattle.litmus_body.specs.StatementReader.{joined}

-- a statement behind others stands at the end of their block
pub block_more : (statements : List Statement) (s : Statement)
    → block_of (statements ++ s ∷ []) ≡ joined (block_of statements) (tree.first (statement_of s) tree.empty)
block_more [] s = refl
block_more (other ∷ statements) s = ap (tree.first (statement_of other)) (block_more statements s)

-- a block with nothing behind it
pub joined_nothing : (block : tree.Block) → joined block tree.empty ≡ block
joined_nothing tree.empty = refl
joined_nothing (tree.first s rest) = ap (tree.first s) (joined_nothing rest)

-- a block behind two
pub joined_twice : (a b c : tree.Block) → joined (joined a b) c ≡ joined a (joined b c)
joined_twice tree.empty b c = refl
joined_twice (tree.first s rest) b c = ap (tree.first s) (joined_twice rest b c)
