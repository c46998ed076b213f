-- The head is one, so the tokens behind it begin at one place.
use Rattle.std.proofs.Common.{drop, subst}
use Rattle.litmus_lex.specs.declared.token.Part.TheVariants.{Init}
use Rattle.litmus_lex.specs.Tokens.{TokensAt}
use Rattle.litmus_lex.proofs.HeadPieces.{head_unique}
use Rattle.litmus_lex.proofs.UniqueTokens.{tokens_unique}
use Rattle.litmus_lex.proofs.laws.law_a_text_has_one_reading.Goals as goal

pub returns : goal.returns
returns c =
    λ text name other first second one two.
    let heads = head_unique text name one.at other two.at one.head two.head in (
      heads.0,
      tokens_unique Init two.at (drop two.at text) first second
          (subst (λ n. TokensAt text Init n first) heads.1 one.body) two.body,
    )
