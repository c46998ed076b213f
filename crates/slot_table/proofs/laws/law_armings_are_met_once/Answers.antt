-- Each taking and each tell is new, so the armings that they are of differ.
use Rattle.slot_table.proofs.Numbers.{taken_differ, told_differ}
use Rattle.slot_table.proofs.Firsts.{meet_once}
use Rattle.slot_table.proofs.laws.law_armings_are_met_once.Goals as goal

pub returns-clause-once : goal.returns-clause-once
returns-clause-once c = meet_once

pub returns-clause-taken : goal.returns-clause-taken
returns-clause-taken c =
    λ page_slots locks cells records rules.
    taken_differ records (meet_once page_slots locks cells records rules)

pub returns-clause-told : goal.returns-clause-told
returns-clause-told c =
    λ page_slots locks cells records rules.
    told_differ records (meet_once page_slots locks cells records rules)
