-- The step is a load of the index that `index` gives.
use Rattle.std.proofs.Common.{ap}
use Rattle.slot_table.specs.declared.step.Step.TheVariants.{Load}
use Rattle.setup_access.proofs.find.Find.next.Goals as goal

pub returns : goal.returns
returns c = λ sites. ap Load (c.index.ensures sites)
