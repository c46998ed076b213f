-- Part by part.
use Rattle.litmus_body.proofs.statement_laws.Kept.{whole_keeps}
use Rattle.litmus_body.proofs.statement_laws.laws.law_what_is_read_as_a_whole_body_keeps_the_limits.Goals as goal

pub returns : goal.returns
returns c = λ parameters symbols x e. whole_keeps parameters symbols x e
