-- The digits found are a run, and so each of them is a digit.
use Rattle.std.proofs.Common.{drop, get_or, take}
use Rattle.litmus_lex.specs.declared.bytes.Class.TheVariants.{Digit, HexDigit}
use Rattle.litmus_lex.proofs.Numbers.{decimal_stands, digit_value-decimal, digit_value-hexadecimal, hexadecimal_stands, run_reads}
use Rattle.litmus_lex.proofs.next.number_of.Goals as goal

pub number_token-requires-clause-digits : goal.number_token-requires-clause-digits
number_token-requires-clause-digits c =
    λ k inside. digit_value-hexadecimal (get_or c.in-Some.digits.now k 0)
    (run_reads HexDigit c.in-Some.digits.now c.in-Some.ensures.found.0
    c.in-Some.ensures.found.3 k inside)

pub number_token-requires-in-None-clause-digits : goal.number_token-requires-in-None-clause-digits
number_token-requires-in-None-clause-digits c =
    λ k inside. digit_value-decimal (get_or (take c.run_len-len.result c.args.bytes.now) k 0)
    (run_reads Digit (take c.run_len-len.result c.args.bytes.now)
    (drop c.run_len-len.result c.args.bytes.now) c.run_len-len.ensures.run k inside)

pub returns-in-Some : goal.returns-in-Some
returns-in-Some c =
    let stands = hexadecimal_stands _ _ _ c.in-Some.ensures.found c.number_token.ensures in
    (stands.within, stands.spells)

pub returns-in-None : goal.returns-in-None
returns-in-None c =
    let stands = decimal_stands _ _ _ c.requires c.run_len-len.ensures.within
    c.run_len-len.ensures.run c.in-None.ensures.none c.number_token-in-None.ensures in
    (stands.within, stands.spells)
