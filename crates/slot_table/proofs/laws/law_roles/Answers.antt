-- The table holds after every list.
use Rattle.slot_table.proofs.Roles.{stands_all}
use Rattle.slot_table.proofs.laws.law_roles.Goals as goal

pub returns : goal.returns
returns c = stands_all
