-- A finder that tells, and a setter that clears after a hit, has heard the ticket of the other of this very arming.
use Rattle.std.specs.Prelude.{◌≡◌, ◌≢◌, ◌⊎◌, ℕ, true, List, [], ◌∷◌, None, Some, length}
use Rattle.slot.specs.Pair.{Halves}
use Rattle.slot_table.specs.Armings.{finder_at, last_arming, last_arming_number, named_at}
use Rattle.slot_table.specs.Armings.{number_made, number_taken, told_at}
use Rattle.slot_table.specs.Discipline.{IsOwnTicket, heard}
use Rattle.slot_table.specs.Records.{records_of}
use Rattle.slot_table.specs.Roles.{part_of}
use Rattle.slot_table.specs.declared.discipline.Part.TheVariants.{Hit, Taken}
use Rattle.slot_table.specs.declared.records.Record.{Record}
use Rattle.slot_table.specs.declared.step.Answer.TheVariants as answers
use Rattle.slot_table.specs.declared.step.Step.{Step}
use Rattle.slot_table.specs.declared.step.Step.TheVariants.{Insert, TryConsume, Name, Tell, Clear}

-- at one record of a list, the latest first, this is so of it and of those before it
abbrev pub SomeRecord : (Record → List Record → Type 0) → List Record → Type 0
SomeRecord P [] = ⊥
SomeRecord P (latest ∷ earlier) = P latest earlier ⊎ SomeRecord P earlier

-- the insertion that is the arming with this number
pub record IsArming (index number setter word : ℕ) (made : Record)
    (earlier : List Record) : Type 0 where
  pub task : made.task ≡ setter
  pub step : made.step ≡ Insert index word
  pub answer : made.answer ≡ answers.Flag true
  pub counts : length earlier ≡ number

-- the try that took it
pub record IsTaking (index number finder word : ℕ) (made : Record)
    (earlier : List Record) : Type 0 where
  pub task : made.task ≡ finder
  pub step : made.step ≡ TryConsume index word
  pub answer : made.answer ≡ answers.Flag true
  pub last : last_arming_number index earlier ≡ Some number

-- the step by which its setter named itself
pub record IsName (index number setter ticket : ℕ) (made : Record)
    (earlier : List Record) : Type 0 where
  pub task : made.task ≡ setter
  pub step : made.step ≡ Name index ticket
  pub last : last_arming_number index earlier ≡ Some number

-- the step by which its finder told
pub record IsTell (index number finder ticket : ℕ) (made : Record)
    (earlier : List Record) : Type 0 where
  pub task : made.task ≡ finder
  pub step : made.step ≡ Tell index ticket
  pub last : last_arming_number index earlier ≡ Some number

-- the last arming at an index, with this number and word, was made by this setter, in its last
-- arming there, and taken by this finder, in its last taking there; both records stand in the list
pub record IsMet (records : List Record) (index number setter finder word : ℕ) : Type 0 where
  pub last : last_arming_number index records ≡ Some number
  pub armed : last_arming index records ≡ Some (record { setter = setter; word = word })
  pub made : number_made setter index records ≡ Some number
  pub arming : SomeRecord (IsArming index number setter word) records
  pub found : finder_at index records ≡ Some finder
  pub taken : number_taken finder index records ≡ Some number
  pub taking : SomeRecord (IsTaking index number finder word) records
  pub two : finder ≢ setter

-- what a finder has heard since it took a word, and not yet told: the setter's half is the ticket
-- that the setter of the very arming which it took has named, and nobody has told of this arming
pub record HeardItsSetter (task index word : ℕ) (both : Halves)
    (records : List Record) : Type 0 where
  pub setter : ℕ
  pub number : ℕ
  pub met : IsMet records index number setter task word
  pub named : named_at index records ≡ Some both.setter
  pub naming : SomeRecord (IsName index number setter both.setter) records
  pub own : IsOwnTicket setter both.setter
  pub untold : told_at index records ≡ None

-- what a setter has heard since it found its word hit, and not yet cleared: its own half is the
-- ticket that it has named, and the finder's half is the ticket that the finder which took this
-- very arming has told
pub record HeardItsFinder (task index : ℕ) (both : Halves) (records : List Record) : Type 0 where
  pub finder : ℕ
  pub word : ℕ
  pub number : ℕ
  pub met : IsMet records index number task finder word
  pub named : named_at index records ≡ Some both.setter
  pub naming : SomeRecord (IsName index number task both.setter) records
  pub own : IsOwnTicket task both.setter
  pub told : told_at index records ≡ Some both.finder
  pub telling : SomeRecord (IsTell index number finder both.finder) records
  pub theirs : IsOwnTicket finder both.finder

-- a finder tells, and a setter whose word was hit clears, once it has heard the other of its arming
abbrev pub HearsTheOther : ℕ → Step → List Record → Type 0
HearsTheOther task (Tell index ticket) earlier =
    (word : ℕ) × (both : Halves) × (part_of task index earlier ≡ Some (Taken word))
    × (heard index (records_of task earlier) ≡ Some both)
    × HeardItsSetter task index word both earlier
HearsTheOther task (Clear index) earlier =
    part_of task index earlier ≡ Some Hit
    → (both : Halves) × (heard index (records_of task earlier) ≡ Some both)
    × HeardItsFinder task index both earlier
HearsTheOther task step earlier = Unit {0}

-- so does each record of a list, the latest first
abbrev pub EachHearsTheOther : List Record → Type 0
EachHearsTheOther [] = Unit {0}
EachHearsTheOther (latest ∷ earlier) =
    EachHearsTheOther earlier × HearsTheOther latest.task latest.step earlier
