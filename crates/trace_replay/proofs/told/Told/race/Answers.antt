-- one more is counted
use Rattle.std.proofs.Common.{length, refl}
use Rattle.trace_replay.specs.Told.{is_pair_key}
use Rattle.trace_replay.proofs.Bags.{on_ok}
use Rattle.trace_replay.proofs.Lines.{count_fits}
use Rattle.trace_replay.proofs.told.Told.race.Goals as goal

pub add-requires : goal.add-requires
add-requires c = count_fits is_pair_key c.requires.1 (c.args.setter, c.args.finder) (length c.requires.1) _ refl c.requires.4.races
    (c.requires.3.races (c.args.setter, c.args.finder))

pub returns : goal.returns
returns c = λ takes races origins told. on_ok c.add.result (λ more. record { takes = told.takes; races = more; origins = told.origins })
    (c.add.ensures races told.races)
