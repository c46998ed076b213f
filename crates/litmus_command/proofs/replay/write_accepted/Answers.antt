-- the line of the version was written
use Rattle.litmus_command.proofs.replay.write_accepted.Goals as goal

pub returns-in-First : goal.returns-in-First
returns-in-First g c = rw c.in-First.is c.write_first.ensures

pub returns-in-Second : goal.returns-in-Second
returns-in-Second g c = rw c.in-Second.is c.write_second.ensures
