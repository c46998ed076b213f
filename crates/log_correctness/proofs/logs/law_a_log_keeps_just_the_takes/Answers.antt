-- Each telling ends a find of its access, and each finder hears the setter of the arming that it took.
use Rattle.log_correctness.proofs.Takings.{kept_takes_of}
use Rattle.log_correctness.proofs.logs.law_a_log_keeps_just_the_takes.Goals as goal

pub returns : goal.returns
returns c = λ run records list task noted notes.
    kept_takes_of run records list (c.law_roles_of_executions.ensures.heard run records list) (c.law_tellings_are_on_finds.ensures run records list) task noted notes
