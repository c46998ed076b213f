-- Each turn passes over one blank or comment; where none is left, all before is the gap.
use Rattle.std.proofs.Common.{◌-◌, arith, drop, length, length-drop, length-take, subst, sym, take, take-append-drop, ℕ}
use Rattle.std.proofs.lemmas.List.{take_rest}
use Rattle.litmus_lex.specs.Gap.{IsAtToken, IsSeparator, IsUnclosed}
use Rattle.litmus_lex.proofs.Separators.{ComesFirst, row_goes_on, row_so_far}
use Rattle.litmus_lex.proofs.gap.gap_of.Goals as goal

pub loop-more-preserved : goal.loop-more-preserved
loop-more-preserved c =
    let here = take_rest c.args.bytes.now c.loop-more.len in
    let found = c.in-Separator.ensures in
    let first : ComesFirst (IsSeparator c.args.part)
    (take (length c.args.bytes.now - c.loop-more.len)
    (drop c.loop-more.len c.args.bytes.now)) c.in-Separator.more
    = record { some = found.0; within = found.1; stands = found.2 } in
    let fits = first.within in
    record {
      within = omega (arith, length-take {A = ℕ}, length-drop {A = ℕ});
      before = row_goes_on
          (IsSeparator c.args.part) _ _ _ _ here c.loop-more.invariant.before first;
    }

pub returns-in-Token : goal.returns-in-Token
returns-in-Token c = (
  c.loop-more.invariant.within,
  row_so_far (IsSeparator c.args.part) _ _ c.loop-more.invariant.before,
  subst (IsAtToken c.args.part) (take_rest c.args.bytes.now c.loop-more.len) c.in-Token.ensures,
)

pub returns-in-Unclosed : goal.returns-in-Unclosed
returns-in-Unclosed c = (
  take c.loop-more.len c.args.bytes.now,
  drop c.loop-more.len c.args.bytes.now,
  sym (take-append-drop c.loop-more.len c.args.bytes.now),
  row_so_far (IsSeparator c.args.part) _ _ c.loop-more.invariant.before,
  subst (IsUnclosed c.args.part) (take_rest c.args.bytes.now c.loop-more.len) c.in-Unclosed.ensures,
)
