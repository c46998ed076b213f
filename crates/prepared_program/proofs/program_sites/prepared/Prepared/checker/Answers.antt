-- The cells are those of the program.
use Rattle.prepared_program.proofs.program_sites.prepared.Prepared.checker.Goals as goal

pub returns-in-Ok-clause-rests : goal.returns-in-Ok-clause-rests
returns-in-Ok-clause-rests c = λ sites. rw (← c.as_slice.ensures.value) (c.in-Ok.ensures.rests sites)
