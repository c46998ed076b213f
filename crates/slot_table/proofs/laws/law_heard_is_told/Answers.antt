-- Lists that agree at each index are one bag, and each arming is told of once.
use Rattle.slot_table.specs.Meetings.{finders_told, setters_heard}
use Rattle.slot_table.proofs.Bags.{permuted}
use Rattle.slot_table.proofs.Meetings.{heard_all, meetings_differ, numbers_told}
use Rattle.slot_table.proofs.laws.law_heard_is_told.Goals as goal

pub returns-clause-bag : goal.returns-clause-bag
returns-clause-bag c =
    λ page_slots locks cells records rules finished.
    permuted (setters_heard records) (finders_told records)
    (heard_all page_slots locks cells records rules finished)

pub returns-clause-tells : goal.returns-clause-tells
returns-clause-tells c =
    λ page_slots locks cells records rules. numbers_told records rules.keeps

pub returns-clause-once : goal.returns-clause-once
returns-clause-once c = meetings_differ
