-- A machine that stopped says why: no text that keeps the limits does that.
use Rattle.task_run.proofs.StuckLemmas.{none_stops}
use Rattle.task_run.proofs.laws.law_no_task_stops.Goals as goal

pub returns : goal.returns
returns c = none_stops
