-- What colours add to each line goes away.
use Rattle.cli.proofs.colors.EscapeLemmas.{colored_leaves}
use Rattle.cli.proofs.colors.laws.law_without_escapes_it_is_the_text.Goals as goal

pub returns : goal.returns
returns c = colored_leaves
