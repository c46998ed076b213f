-- A statement with blocks has the most of these in force.
use Rattle.std.proofs.Common.{◌≡◌, ◌∙◌, List, arith, sym}
use Rattle.std.proofs.lemmas.List.{at_drop_all}
use Rattle.std.specs.Prelude.{max}
use Rattle.litmus_syntax.specs.Views.{block_of}
use Rattle.litmus_syntax.specs.declared.statement.Statement.{Statement}
use Rattle.program_table.proofs.BlockLemmas.{of_for, of_if, of_if_else, of_passed}
use Rattle.program_table.specs.Counts.{capped}
use Rattle.program_table.specs.Nesting.{scoped_in, scoped_of}
use Rattle.program_table.proofs.nesting.+scoped.Goals as goal

pub scoped_in-returns : goal.scoped_in-returns
scoped_in-returns t c =
    let none = at_drop_all (λ (xs : List Statement). scoped_in (block_of xs)) c.args.block.now c.loop-statement.statement-index (omega arith) in
    omega (arith, none, c.loop-statement.invariant.few, c.loop-statement.invariant.small, c.loop-statement.invariant.largest)

pub scoped_of-returns-in-If : goal.scoped_of-returns-in-If
scoped_of-returns-in-If t c =
    c.scoped_in.ensures ∙ of_passed scoped_in c.in-If.body.items _ c.as_slice.ensures.value
    ∙ sym (of_if scoped_of c.args.statement.now c.in-If.condition c.in-If.body c.in-If.is)

pub scoped_of-returns-in-IfElse : goal.scoped_of-returns-in-IfElse
scoped_of-returns-in-IfElse t c =
    let body = c.scoped_in-first.ensures ∙ of_passed scoped_in c.in-IfElse.body.items _ c.as_slice-in-IfElse.ensures.value in
    let otherwise = c.scoped_in-in-IfElse.ensures ∙ of_passed scoped_in c.in-IfElse.otherwise.items _ c.as_slice-in-IfElse-2.ensures.value in
    let both : c.max.result ≡ capped (max (scoped_in (block_of c.in-IfElse.body.items)) (scoped_in (block_of c.in-IfElse.otherwise.items))) =
    omega (arith, c.max.ensures, body, otherwise) in
    both ∙ sym (of_if_else scoped_of c.args.statement.now c.in-IfElse.condition c.in-IfElse.body c.in-IfElse.otherwise c.in-IfElse.is)

pub scoped_of-returns-in-For : goal.scoped_of-returns-in-For
scoped_of-returns-in-For t c =
    c.scoped_in-in-For.ensures ∙ of_passed scoped_in c.in-For.body.items _ c.as_slice-in-For.ensures.value
    ∙ sym (of_for scoped_of c.args.statement.now c.in-For.register c.in-For.turns c.in-For.body c.in-For.is)
