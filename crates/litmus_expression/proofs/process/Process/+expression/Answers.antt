-- A level goes on from the stronger ones, and fails where one of them does.
use Rattle.std.proofs.Common.{◌≡◌, ◌+◌, ◌∙◌, None, ap, sym, arith, rules}
use Rattle.litmus_syntax.specs.Views.{expression_of}
use Rattle.litmus_lex.specs.declared.cursor.Refusal.TheVariants.{OutOfMemory}
use Rattle.litmus_lex.specs.Words.{Symbol}
use Rattle.litmus_expression.specs.ExpressionReader.{binary_at, level_at, of_level}
use Rattle.litmus_expression.specs.States.{state_of}
use Rattle.litmus_expression.proofs.Shorter.{Found}
use Rattle.litmus_expression.proofs.Unrolled.{level_joins, level_stays, more_fails, no_operator, prefixed_fails}
use Rattle.litmus_expression.proofs.process.Process.+expression.Goals.{level-then-is_some+in_ok-left-2, level-else-is_some}
use Rattle.litmus_expression.proofs.process.Process.+expression.Goals as goal

pub level-returns-in_err-left-clause-reads : goal.level-returns-in_err-left-clause-reads
level-returns-in_err-left-clause-reads b c = search (rules, prefixed_fails)

pub level-returns-in_err-left-2-clause-reads : goal.level-returns-in_err-left-2-clause-reads
level-returns-in_err-left-2-clause-reads b c =
    let l = c.loop-stronger in
    let fails : (c.in_err-left-2.field-0.0 ≡ OutOfMemory → ⊥) → level_at c.args.around.now.turns c.args.around.now.depth c.args.level (state_of c.args.self.now) c.args.rest.now ≡ None =
    λ other. more_fails c.args.around.now.turns c.args.around.now.depth l.stronger c.args.level (state_of c.args.self.now) c.args.rest.now
    (expression_of l.left, state_of l.self, l.rest) l.invariant.reads (c.in_err-left-2.ensures.reads other) c.loop-stronger-test.true in
    search (rules, fails)

pub level-loop-stronger-preserved : goal.level-loop-stronger-preserved
level-loop-stronger-preserved b c =
    let l = c.loop-stronger in
    let t = c.args.around.now.turns in
    let d = c.args.around.now.depth in
    let before : Found = (expression_of l.left, state_of l.self, l.rest) in
    elim c.if-is_some.branch [
      | level-then-is_some+in_ok-left-2 w ↦ record {
        moves = rw w.self-is (omega (arith, w.in_ok-left-2.ensures.moves, l.invariant.moves));
        reads = rw w.left-is (rw w.self-is (rw w.rest-is (
            level_joins t d l.stronger (state_of c.args.self.now) c.args.rest.now before
            (expression_of w.in_ok-left-2.left, state_of w.more.new.self, w.more.new.rest) l.invariant.reads w.in_ok-left-2.ensures.reads)));
      }
      | level-else-is_some w ↦ record {
        moves = rw w.self-is l.invariant.moves;
        reads = rw w.left-is (rw w.self-is (rw w.rest-is (
            level_stays t d l.stronger (state_of c.args.self.now) c.args.rest.now before l.invariant.reads
            (ap (λ (y : Symbol). of_level (l.stronger + 1) (binary_at y)) (sym c.token.ensures.symbol)
            ∙ sym c.operator_at.ensures ∙ no_operator c.operator_at.result (sym w.if-is_some.ensures)))));
      }
    ]
