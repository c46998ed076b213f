-- The gap and the token behind it are the first that the text has there.
use Rattle.std.proofs.Common.{refl}
use Rattle.std.proofs.lemmas.List.{take_rest}
use Rattle.litmus_lex.specs.Token.{terminal_of}
use Rattle.litmus_lex.proofs.Following.{follows, follows_unclosed}
use Rattle.litmus_lex.proofs.next.next_token.Goals as goal

pub returns-in-Before-clause-next : goal.returns-in-Before-clause-next
returns-in-Before-clause-next c =
    let gap = c.in-Before.ensures in
    let token = c.token_of-more.ensures in
    follows c.args.text.now c.args.place _ _ _ _ c.in-Before.len c.token_of-more.result.len
    (terminal_of c.token_of-more.result.token)
    (take_rest c.args.text.now c.args.place.at)
    (take_rest _ c.in-Before.len) gap.0 gap.1 gap.2 token.0 token.1 refl c.part_after.ensures

pub returns-in-Unclosed-clause-next : goal.returns-in-Unclosed-clause-next
returns-in-Unclosed-clause-next c =
    let gap = c.in-Unclosed.ensures in
    follows_unclosed c.args.text.now c.args.place _ _ _ gap.0 gap.1 c.requires
    (take_rest c.args.text.now c.args.place.at) gap.2 gap.3 gap.4 refl refl
