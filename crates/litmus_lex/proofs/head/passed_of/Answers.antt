-- What begins with a quote is a quoted text, or goes on to the end; and so with a comment.
use Rattle.std.proofs.Common.{◌≡◌, arith, ap, get_or, length}
use Rattle.std.proofs.lemmas.List.{take_rest}
use Rattle.litmus_lex.proofs.HeadPieces.{front_is, open_comment, open_quoted, quoted_stands}
use Rattle.litmus_lex.proofs.head.passed_of.Goals as goal

pub returns-in-Some : goal.returns-in-Some
returns-in-Some c =
    let byte : get_or c.args.bytes.now 0 0 ≡ 34 = omega arith in
    let is = front_is c.args.bytes.now _ 34 c.in-34.len_at_least byte
    (take_rest c.args.bytes.now 1) in
    let within = c.in-Some.ensures.within in
    let size = ap length is in (
      omega arith,
      omega arith,
      quoted_stands c.args.bytes.now _ c.in-Some.len is within c.in-Some.ensures.found,
    )

pub returns-in-None : goal.returns-in-None
returns-in-None c =
    let byte : get_or c.args.bytes.now 0 0 ≡ 34 = omega arith in
    open_quoted c.args.bytes.now _
    (front_is c.args.bytes.now _ 34 c.in-34.len_at_least byte (take_rest c.args.bytes.now 1))
    c.in-None.ensures.none

pub returns-in-Unclosed : goal.returns-in-Unclosed
returns-in-Unclosed c = open_comment c.args.bytes.now c.in-Unclosed.ensures
