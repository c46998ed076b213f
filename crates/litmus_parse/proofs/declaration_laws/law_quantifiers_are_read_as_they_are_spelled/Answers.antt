-- By the words.
use Rattle.litmus_parse.proofs.Quantifiers.{quantifier_read, quantifier_spelled}
use Rattle.litmus_parse.proofs.declaration_laws.law_quantifiers_are_read_as_they_are_spelled.Goals as goal

pub returns : goal.returns
returns c = λ symbols rest quantifier. ((λ spelled. quantifier_read spelled), (λ e. quantifier_spelled symbols (quantifier, rest) e))
