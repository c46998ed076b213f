-- Outside all loops no register counts one.
use Rattle.litmus_body.proofs.statement_laws.Sound.{whole_reads}
use Rattle.litmus_body.proofs.statement_laws.laws.law_what_is_read_as_a_whole_body_is_spelled.Goals as goal

pub returns : goal.returns
returns c = whole_reads
