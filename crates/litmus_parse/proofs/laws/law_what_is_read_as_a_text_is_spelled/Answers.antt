-- Part by part.
use Rattle.litmus_parse.proofs.Texts.{text_read}
use Rattle.litmus_parse.proofs.laws.law_what_is_read_as_a_text_is_spelled.Goals as goal

pub returns : goal.returns
returns c = λ name symbols program e. text_read name symbols program e
