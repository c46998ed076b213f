-- The step of an insertion is at the index that `index_of` gives.
use Rattle.std.proofs.Common.{ap, ℕ}
use Rattle.slot_table.specs.declared.step.Step.TheVariants.{Insert}
use Rattle.setup_access.proofs.setup.Setup.next.Goals as goal

pub returns-in-Insert : goal.returns-in-Insert
returns-in-Insert c = λ sites. rw c.in-Insert.is (ap (λ (index : ℕ). Insert index c.in-Insert.word) (c.index_of.ensures sites))
