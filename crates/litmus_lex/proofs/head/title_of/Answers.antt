-- The runs of blanks and of the name's bytes are those of any title.
use Rattle.std.proofs.Common.{◌≡◌, arith, get_or}
use Rattle.std.proofs.lemmas.List.{take_rest}
use Rattle.litmus_lex.proofs.HeadPieces.{front_is}
use Rattle.litmus_lex.proofs.Heads.{no_title, title_found}
use Rattle.litmus_lex.proofs.head.title_of.Goals as goal

pub returns-then-name-eq0-clause-only : goal.returns-then-name-eq0-clause-only
returns-then-name-eq0-clause-only c =
    let byte : get_or c.args.bytes.now 0 0 ≡ 67 = omega arith in
    let is = front_is c.args.bytes.now _ 67 c.in-67.len_at_least byte
    (take_rest c.args.bytes.now 1) in
    λ name rest title. absurd
    (no_title c.args.bytes.now _ _ c.run_len-blanks.result c.run_len-name.result is
    (take_rest _ c.run_len-blanks.result)
    c.run_len-blanks.ensures.run c.if-name-eq0.true c.run_len-name.ensures.run name rest title)

pub returns-clause-ok : goal.returns-clause-ok
returns-clause-ok c =
    let byte : get_or c.args.bytes.now 0 0 ≡ 67 = omega arith in
    let is = front_is c.args.bytes.now _ 67 c.in-67.len_at_least byte
    (take_rest c.args.bytes.now 1) in
    let blank = c.if-blanks-eq0.false in
    let named = c.if-name-eq0.false in
    title_found c.args.bytes.now _ _ c.run_len-blanks.result c.run_len-name.result is
    (take_rest _ c.run_len-blanks.result)
    (omega arith) c.run_len-blanks.ensures.within c.run_len-blanks.ensures.run
    (omega arith) c.run_len-name.ensures.within c.run_len-name.ensures.run
