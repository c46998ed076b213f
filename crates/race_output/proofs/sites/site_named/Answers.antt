-- The site of the name, and none where none of the listed ones has it.
use Rattle.std.proofs.Common.{arith}
use Rattle.race_output.proofs.Named.{unnamed}
use Rattle.race_output.proofs.sites.site_named.Goals as goal

pub returns : goal.returns
returns c = λ run are.
    unnamed run c.args.sites.now c.args.name are (λ k placed within is same. c.loop-placed.invariant k placed (omega arith) is same)
