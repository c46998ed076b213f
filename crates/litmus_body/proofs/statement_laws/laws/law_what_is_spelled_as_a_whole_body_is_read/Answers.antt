-- By each rule of statements and blocks: what is counted of a part is no more than what is counted of the whole.
use Rattle.litmus_body.proofs.statement_laws.Whole.{whole_is_read}
use Rattle.litmus_body.proofs.statement_laws.laws.law_what_is_spelled_as_a_whole_body_is_read.Goals as goal

pub returns : goal.returns
returns c = λ parameters inside rest body registers apart spelled keeps. whole_is_read parameters apart inside rest body registers spelled keeps
