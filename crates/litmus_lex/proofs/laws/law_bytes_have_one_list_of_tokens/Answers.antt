-- By induction on the two lists: the first tokens are one, and so are those behind it.
use Rattle.litmus_lex.proofs.UniqueTokens.{tokens_unique}
use Rattle.litmus_lex.proofs.laws.law_bytes_have_one_list_of_tokens.Goals as goal

pub returns : goal.returns
returns c = tokens_unique
