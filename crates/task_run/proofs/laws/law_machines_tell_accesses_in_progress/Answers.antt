-- By the part of its text that the machine is in: it began where these were told.
use Rattle.task_run.proofs.MachineInProgress.{machine_tells}
use Rattle.task_run.proofs.laws.law_machines_tell_accesses_in_progress.Goals as goal

pub returns : goal.returns
returns c = λ s registers body records machine leads written begun. machine_tells s registers body records machine leads written begun
