-- What a task has open is what it has in hand, and a hand holds one thing.
use Rattle.slot_table.specs.Records.{records_of}
use Rattle.slot_table.proofs.Parts.{not_both, one_index}
use Rattle.slot_table.proofs.laws.law_one_part_at_a_time.Goals as goal

pub returns-clause-one_index : goal.returns-clause-one_index
returns-clause-one_index c =
    λ page_slots locks cells records rules task i j here there.
    one_index task i j (records_of task records) (rules.keeps task) here there

pub returns-clause-not_both : goal.returns-clause-not_both
returns-clause-not_both c =
    λ page_slots locks cells records rules task i j arming taking.
    not_both task i j (records_of task records) (rules.keeps task) arming taking
