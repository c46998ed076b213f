-- nothing was added
use Rattle.trace_replay.proofs.told.Told.new.Goals as goal

pub returns : goal.returns
returns c = record { takes = c.new.ensures; races = c.new-2.ensures; origins = c.new-3.ensures }
