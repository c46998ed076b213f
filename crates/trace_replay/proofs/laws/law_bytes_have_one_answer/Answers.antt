-- by the place where reading stops
use Rattle.trace_replay.proofs.OneAnswer.{one_answer}
use Rattle.trace_replay.proofs.laws.law_bytes_have_one_answer.Goals as goal

pub returns : goal.returns
returns c = one_answer
