-- By the part that the machine is in: its points leave the registers until the part is over.
use Rattle.log_correctness.proofs.MachineStanding.{registers_told, unbalanced_told}
use Rattle.log_correctness.proofs.standing.law_machines_stand_where_the_records_tell.Goals as goal

pub returns-clause-registers : goal.returns-clause-registers
returns-clause-registers c = registers_told

pub returns-clause-unbalanced : goal.returns-clause-unbalanced
returns-clause-unbalanced c = unbalanced_told
