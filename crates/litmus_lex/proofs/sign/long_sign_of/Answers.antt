-- The first two bytes stand at the front.
use Rattle.std.proofs.Common.{ap, length, drop}
use Rattle.std.proofs.lemmas.Option.{IfSome_then}
use Rattle.litmus_lex.proofs.Signs.{begins_two}
use Rattle.litmus_lex.proofs.sign.long_sign_of.Goals as goal

pub returns-in-len2-up-clause-found : goal.returns-in-len2-up-clause-found
returns-in-len2-up-clause-found c =
    IfSome_then c.long_sign.result c.long_sign.ensures.found
    (λ sign is. (
      (
        drop 2 c.args.bytes.now,
        begins_two c.args.bytes.now _ c.in-len2-up.len_at_least is,
      ),
      ap length is,
    ))
