-- What was told stays told.
use Rattle.std.proofs.Common.{◌≡◌, ◌<◌, ◌≤◌, ◌-◌, ◌∷◌, [], ℕ, suc, Contains, List, Option, None, Some, arith, drop, length, subst, take}
use Rattle.std.proofs.Math.Seq.{take-length}
use Rattle.slot.specs.Pair.{Halves}
use Rattle.slot_table.specs.Armings.{last_arming_number}
use Rattle.slot_table.specs.Discipline.{heard}
use Rattle.slot_table.specs.Meetings.{Meeting, finders_told, told_by, told_to}
use Rattle.slot_table.specs.Records.{records_of}
use Rattle.slot_table.specs.declared.records.Record.{Record}
use Rattle.slot_table.specs.declared.step.Step.{Step}
use Rattle.slot_table.specs.declared.step.Step.TheVariants.{Tell}

told_on : (index ticket : ℕ) (last : Option ℕ) (both : Option Halves) (before : List Meeting) (met : Meeting) → Contains before met
    → Contains (told_to index ticket last both before) met
told_on index ticket (Some number) (Some both) before met h = (suc h.0, let below : h.0 < length before = h.1 in omega (arith, below), h.2)
told_on index ticket None both before met h = h
told_on index ticket (Some number) None before met h = h

pub told_after : (task : ℕ) (step : Step) (earlier : List Record) (before : List Meeting) (met : Meeting) → Contains before met
    → Contains (told_by task step earlier before) met
told_after task (Tell index ticket) earlier before met h =
    told_on index ticket (last_arming_number index earlier) (heard index (records_of task earlier)) before met h
told_after task step earlier before met h = h

pub told_front : (records : List Record) (met : Meeting) → 1 ≤ length records → Contains (finders_told (take (length records - 1) (drop 1 records))) met
    → Contains (finders_told records) met
told_front [] met some h = absurd (omega (arith, some))
told_front (latest ∷ earlier) met some h =
    told_after latest.task latest.step earlier (finders_told earlier) met
    (subst (λ (l : List Record). Contains (finders_told l) met) (rest_is earlier) h)
  where
    rest_is : (l : List Record) → take (suc (length l) - 1) l ≡ l
    rest_is l = let n : suc (length l) - 1 ≡ length l = omega arith in rw n (take-length l)
