-- Two readings of a text by the same records go together.
use Rattle.executions.proofs.observation_determinism.Telling.{longer_told, nothing_more, same_told, stands_last}
use Rattle.executions.proofs.observation_determinism.laws.law_one_telling.Goals as goal

pub returns-clause-same : goal.returns-clause-same
returns-clause-same c = same_told

pub returns-clause-longer : goal.returns-clause-longer
returns-clause-longer c = longer_told

pub returns-clause-now : goal.returns-clause-now
returns-clause-now c = stands_last

pub returns-clause-whole : goal.returns-clause-whole
returns-clause-whole c = nothing_more
