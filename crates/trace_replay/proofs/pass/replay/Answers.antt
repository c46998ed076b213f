-- what is answered holds, and nothing else does
use Rattle.trace_replay.proofs.OneAnswer.{exactly}
use Rattle.trace_replay.proofs.pass.replay.Goals as goal

pub returns-clause-exact : goal.returns-clause-exact
returns-clause-exact c = exactly c.args.bytes.now c.read_whole.result c.read_whole.ensures.accepted c.read_whole.ensures.refused
