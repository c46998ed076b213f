-- Each turn passes over one piece; where none is left, all before is what the head passes over.
use Rattle.std.proofs.Common.{◌-◌, ◌∙◌, arith, drop, length, length-drop, length-take, subst, take, take-append-drop, ℕ}
use Rattle.std.proofs.lemmas.List.{take_rest}
use Rattle.litmus_lex.specs.Head.{IsAtBrace, IsPassed}
use Rattle.litmus_lex.specs.Found.{IsNowhere}
use Rattle.litmus_lex.proofs.HeadPieces.{no_brace}
use Rattle.litmus_lex.proofs.Separators.{ComesFirst, row_goes_on, row_so_far}
use Rattle.litmus_lex.proofs.head.brace_of.Goals as goal

pub loop-more-preserved : goal.loop-more-preserved
loop-more-preserved c =
    let here = take_rest c.args.bytes.now c.loop-more.len in
    let found = c.in-Over.ensures in
    let first : ComesFirst IsPassed
    (take (length c.args.bytes.now - c.loop-more.len)
    (drop c.loop-more.len c.args.bytes.now)) c.in-Over.more
    = record { some = found.0; within = found.1; stands = found.2 } in
    let fits = first.within in
    record {
      within = omega (arith, length-take {A = ℕ}, length-drop {A = ℕ});
      before = row_goes_on IsPassed _ _ _ _ here c.loop-more.invariant.before first;
    }

pub returns-in-Brace-clause-found : goal.returns-in-Brace-clause-found
returns-in-Brace-clause-found c = (
  row_so_far IsPassed _ _ c.loop-more.invariant.before,
  subst IsAtBrace (take_rest c.args.bytes.now c.loop-more.len) c.in-Brace.ensures,
)

pub returns-in-End-clause-none : goal.returns-in-End-clause-none
returns-in-End-clause-none c =
    λ passed rest splits row brace.
    no_brace (take c.loop-more.len c.args.bytes.now)
    (drop c.loop-more.len c.args.bytes.now) passed rest
    (row_so_far IsPassed _ _ c.loop-more.invariant.before) row
    (subst IsNowhere (take_rest c.args.bytes.now c.loop-more.len) c.in-End.ensures) brace
    (take-append-drop c.loop-more.len c.args.bytes.now ∙ splits)
