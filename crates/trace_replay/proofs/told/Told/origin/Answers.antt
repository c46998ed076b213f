-- one more is counted
use Rattle.trace_replay.proofs.Bags.{on_ok}
use Rattle.trace_replay.proofs.told.Told.origin.Goals as goal

pub returns : goal.returns
returns c = λ takes races origins told. on_ok c.add.result (λ more. record { takes = told.takes; races = told.races; origins = more })
    (c.add.ensures origins told.origins)
