-- By another answer of the clock at one record.
use Rattle.executions.proofs.timestamp_irrelevance.Spelled.{with_other_stamp}
use Rattle.executions.proofs.timestamp_irrelevance.laws.law_stamps_tell_nothing.Goals as goal

pub returns : goal.returns
returns c = λ s registers body front one other later same whole. with_other_stamp s registers body front one other later same whole
