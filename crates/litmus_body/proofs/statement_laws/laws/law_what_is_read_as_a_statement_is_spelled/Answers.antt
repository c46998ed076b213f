-- The readers that are as deep as they have to be are sound, as those of any depth.
use Rattle.litmus_body.proofs.statement_laws.Sound.{body_reads, statement_reads}
use Rattle.litmus_body.proofs.statement_laws.laws.law_what_is_read_as_a_statement_is_spelled.Goals as goal

pub returns : goal.returns
returns c = record { statement = statement_reads; body = body_reads }
