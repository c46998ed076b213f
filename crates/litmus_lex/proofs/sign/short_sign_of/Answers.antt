-- The first byte stands at the front.
use Rattle.std.proofs.Common.{ap, length, drop}
use Rattle.std.proofs.lemmas.Option.{IfSome_then}
use Rattle.litmus_lex.proofs.Signs.{begins_one}
use Rattle.litmus_lex.proofs.sign.short_sign_of.Goals as goal

pub returns-in-len1-up-clause-found : goal.returns-in-len1-up-clause-found
returns-in-len1-up-clause-found c =
    IfSome_then c.short_sign.result c.short_sign.ensures.found
    (λ sign is. (
      (
        drop 1 c.args.bytes.now,
        begins_one c.args.bytes.now _ c.in-len1-up.len_at_least is,
      ),
      ap length is,
    ))
