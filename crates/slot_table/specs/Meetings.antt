-- Which setter and finder met over which arming, as finders told it and as setters heard it.
use Rattle.std.specs.Prelude.{◌==◌, ℕ, List, [], ◌∷◌, Option, Some, map}
use Rattle.std.specs.List.{filter}
use Rattle.slot.specs.Pair.{Halves}
use Rattle.slot_table.specs.Armings.{last_arming_number}
use Rattle.slot_table.specs.Discipline.{heard, in_hand, part_at}
use Rattle.slot_table.specs.declared.discipline.Part.{Part}
use Rattle.slot_table.specs.declared.discipline.Part.TheVariants.{Hit}
use Rattle.slot_table.specs.Records.{records_of}
use Rattle.slot_table.specs.declared.records.Record.{Record}
use Rattle.slot_table.specs.declared.step.Step.{Step}
use Rattle.slot_table.specs.declared.step.Step.TheVariants.{Clear, Tell}

-- a setter and a finder met over an arming at an index: its number, and both halves of its pair
pub record Meeting : Type 0 where
  pub index : ℕ
  pub number : ℕ
  pub setter : ℕ
  pub finder : ℕ

-- a finder that tells its ticket has met, over the last arming there, the setter whose half it
-- heard
abbrev pub told_to : ℕ → ℕ → Option ℕ → Option Halves → List Meeting → List Meeting
told_to index ticket (Some number) (Some both) before =
    record { index = index; number = number; setter = both.setter; finder = ticket } ∷ before
told_to index ticket last nothing before = before

-- what finders told after one more step of a task
abbrev pub told_by : ℕ → Step → List Record → List Meeting → List Meeting
told_by task (Tell index ticket) earlier before =
    told_to index ticket (last_arming_number index earlier) (heard index (records_of task earlier))
    before
told_by task step earlier before = before

-- what finders told in a list, the latest first
abbrev pub finders_told : List Record → List Meeting
finders_told [] = []
finders_told (latest ∷ earlier) = told_by latest.task latest.step earlier (finders_told earlier)

-- a setter that clears a pair after its word was hit has met, over the last arming there, the
-- finder whose half it heard
abbrev pub heard_from : ℕ → Option Part → Option ℕ → Option Halves → List Meeting → List Meeting
heard_from index (Some Hit) (Some number) (Some both) before =
    record { index = index; number = number; setter = both.setter; finder = both.finder } ∷ before
heard_from index part last nothing before = before

-- what setters heard after one more step of a task
abbrev pub heard_by : ℕ → Step → List Record → List Meeting → List Meeting
heard_by task (Clear index) earlier before =
    let own = records_of task earlier in
    heard_from index (part_at index (in_hand own)) (last_arming_number index earlier)
    (heard index own) before
heard_by task step earlier before = before

-- what setters heard in a list, the latest first
abbrev pub setters_heard : List Record → List Meeting
setters_heard [] = []
setters_heard (latest ∷ earlier) = heard_by latest.task latest.step earlier (setters_heard earlier)

-- the meetings at an index
abbrev pub meetings_at : ℕ → List Meeting → List Meeting
meetings_at index meetings = filter (λ met. met.index == index) meetings

-- the numbers of the armings over which they met
abbrev pub numbers_met : List Meeting → List ℕ
numbers_met meetings = map (λ met. met.number) meetings
