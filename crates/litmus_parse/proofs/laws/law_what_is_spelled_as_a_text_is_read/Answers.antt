-- Part by part.
use Rattle.litmus_parse.proofs.TextComplete.{text_complete}
use Rattle.litmus_parse.proofs.laws.law_what_is_spelled_as_a_text_is_read.Goals as goal

pub returns : goal.returns
returns c = λ symbols program spelled. text_complete symbols program spelled
