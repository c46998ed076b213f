-- What statements with blocks are without where they lie in memory: a block in a statement is the block of its items.
use Rattle.std.proofs.Common.{◌≡◌, ℕ, Vec, Global, refl, ap, ◌∙◌}
use mathlib.Core.Former.{Count}
use Rattle.litmus_syntax.specs.Tree as tree
use Rattle.litmus_syntax.specs.Views.{expression_of, statement_of, block_of_row, block_of}
use Rattle.litmus_syntax.specs.declared.expression.Expression.{Expression}
use Rattle.litmus_syntax.specs.declared.statement.Statement.{Statement, Row_of-Statement, end_of-Statement, more_of-Statement, items-the_row-Statement, items_hidden-the_row-Statement-0}
use Rattle.litmus_syntax.specs.declared.statement.Statement.TheVariants.{If, If', IfElse, IfElse', For, For'}

block_of_row-items : (n : _) (row : Row_of-Statement n) → block_of_row row ≡ block_of (items-the_row-Statement n row)
block_of_row-items n end_of-Statement = refl
block_of_row-items n (more_of-Statement s rest) = ap (tree.first (statement_of s)) (block_of_row-items _ rest)

abbrev body_of : Statement → (n : Count) × Row_of-Statement n
body_of (If' condition _ body) = (_, body)
body_of (IfElse' condition _ body _ otherwise) = (_, body)
body_of (For' register turns _ body) = (_, body)
body_of _ = (_, end_of-Statement)

abbrev otherwise_of : Statement → (n : Count) × Row_of-Statement n
otherwise_of (IfElse' condition _ body _ otherwise) = (_, otherwise)
otherwise_of _ = (_, end_of-Statement)

pub statement_of-If : (condition : Expression) (body : Vec Statement Global) → statement_of (If condition body) ≡ tree.if_block (expression_of condition) (block_of body.items)
statement_of-If condition body =
    let row = body_of (If condition body) in
    ap (tree.if_block (expression_of condition)) (block_of_row-items row.0 row.1 ∙ ap block_of (items_hidden-the_row-Statement-0 body))

pub statement_of-For : (register turns : ℕ) (body : Vec Statement Global) → statement_of (For register turns body) ≡ tree.for_turns register turns (block_of body.items)
statement_of-For register turns body =
    let row = body_of (For register turns body) in
    ap (tree.for_turns register turns) (block_of_row-items row.0 row.1 ∙ ap block_of (items_hidden-the_row-Statement-0 body))

pub statement_of-IfElse : (condition : Expression) (body otherwise : Vec Statement Global) → statement_of (IfElse condition body otherwise) ≡ tree.if_else (expression_of condition) (block_of body.items) (block_of otherwise.items)
statement_of-IfElse condition body otherwise =
    let row = body_of (IfElse condition body otherwise) in
    let other = otherwise_of (IfElse condition body otherwise) in
    let bodies : block_of_row row.1 ≡ block_of body.items = block_of_row-items row.0 row.1 ∙ ap block_of (items_hidden-the_row-Statement-0 body) in
    let others : block_of_row other.1 ≡ block_of otherwise.items = block_of_row-items other.0 other.1 ∙ ap block_of (items_hidden-the_row-Statement-0 otherwise) in
    ap (λ b. tree.if_else (expression_of condition) b (block_of_row other.1)) bodies
    ∙ ap (tree.if_else (expression_of condition) (block_of body.items)) others
