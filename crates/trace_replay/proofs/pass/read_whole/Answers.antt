-- the head fails
use Rattle.trace_replay.proofs.FirstFailingLine.{head_fails}
use Rattle.trace_replay.proofs.pass.read_whole.Goals as goal

pub returns-in-Err-clause-refused : goal.returns-in-Err-clause-refused
returns-in-Err-clause-refused c = head_fails c.args.bytes.now c.in-Err.line c.if-bytes-gt-SIZE_LIMIT.false c.in-Err.ensures.fails
