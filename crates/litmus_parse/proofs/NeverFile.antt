-- No limit that a token passes is that of the file.
use Rattle.std.proofs.Common.{◌≡◌}
use Rattle.litmus_syntax.specs.declared.error.Limit.TheVariants as limits
use Rattle.litmus_lex.specs.declared.cursor.Excess.{Excess}
use Rattle.litmus_lex.specs.declared.cursor.Excess.TheVariants as excesses
use Rattle.litmus_parse.specs.Answer.{limit_of}

pub never_file : (excess : Excess) → limit_of excess ≡ limits.File → ⊥
never_file excesses.Tasks is = cc
never_file excesses.Statements is = cc
never_file excesses.Variables is = cc
never_file excesses.Registers is = cc
never_file excesses.Nesting is = cc
never_file excesses.Operators is = cc
never_file excesses.Scoped is = cc
never_file excesses.Number is = cc
never_file excesses.Check is = cc
never_file excesses.Turns is = cc
never_file excesses.Repeats is = cc
