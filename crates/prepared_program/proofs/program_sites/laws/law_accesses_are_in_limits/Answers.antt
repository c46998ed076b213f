-- By the sites of its text.
use Rattle.prepared_program.proofs.program_sites.ProgramLemmas.{in_limits}
use Rattle.prepared_program.proofs.program_sites.laws.law_accesses_are_in_limits.Goals as goal

pub returns : goal.returns
returns c = λ program places keeps fit a of. in_limits program places keeps fit a of
