-- What a loop is read as is what its header and its body are read as.
use Rattle.std.proofs.Common.{◌≡◌, ◌∙◌, List, Some, sym, ap, subst}
use Rattle.litmus_syntax.specs.Tree as tree
use Rattle.litmus_syntax.specs.Views.{block_of}
use Rattle.litmus_syntax.proofs.TreeLemmas.{statement_of-For}
use Rattle.litmus_lex.specs.Words.{Symbol}
use Rattle.litmus_expression.specs.Places.{place_of}
use Rattle.litmus_expression.specs.States.{after, state_of, with_left}
use Rattle.litmus_body.specs.StatementReader.{header_at}
use Rattle.litmus_body.proofs.Unrolled.{loop_reads}
use Rattle.litmus_body.proofs.statement.+statement.Goals as goal

pub read_repetition-returns-clause-reads : goal.read_repetition-returns-clause-reads
read_repetition-returns-clause-reads t c =
    let s = state_of c.args.process.now in
    let p = place_of c.args.around in
    let u = state_of c.read_loop_header.new.process in
    let w = state_of c.read_body.new.process in
    let header : header_at p (after s) ≡ Some (c.in_ok-header.header, u) =
    subst (λ (l : List Symbol). header_at p (with_left s l) ≡ Some (c.in_ok-header.header, u)) c.advance.ensures.symbols c.in_ok-header.ensures.reads in
    loop_reads p (place_of c.repeated.result) s u w c.in_ok-header.header
    (block_of c.in_ok-body.body.items) header c.repeated.ensures c.in_ok-body.ensures.reads
    ∙ ap (λ (x : tree.Statement). Some (x, w)) (sym (statement_of-For c.in_ok-header.header.register c.in_ok-header.header.turns c.in_ok-body.body))
