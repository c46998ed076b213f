-- What was heard still stands, and it is what the other of this arming gave.
use Rattle.slot_table.proofs.Hearings.{each_hears, heard_finder, heard_setter}
use Rattle.slot_table.proofs.laws.law_each_hears_the_other.Goals as goal

pub returns-clause-finder : goal.returns-clause-finder
returns-clause-finder c = heard_setter

pub returns-clause-setter : goal.returns-clause-setter
returns-clause-setter c = heard_finder

pub returns-clause-each : goal.returns-clause-each
returns-clause-each c = each_hears
