-- At which record of a check each outcome falls.
use Rattle.std.specs.Prelude.{◌≡◌, ◌+◌, ◌<◌, ◌++◌, ◌⊎◌, ℕ, List, [], ◌∷◌, Option, None, Some, IsSome, true, false}
use Rattle.access_types.specs.Access.{Access}
use Rattle.access_types.specs.Ticket.{ticket_number}
use Rattle.slot_table.specs.declared.records.Record.{Record}
use Rattle.slot_table.specs.declared.step.Answer.TheVariants as answers
use Rattle.slot_table.specs.declared.step.Step.TheVariants.{Consume, Insert, Load, PairLoad, Tell, TryConsume}
use Rattle.setup_access.specs.Check.{Fallen}
use Rattle.setup_access.specs.Hits.{Hits}
use Rattle.setup_access.specs.Parts.{made}
use Rattle.slot_table.specs.index_order.Indices.{look_index}
use Rattle.setup_access.specs.Setting.{Setting, slot_of}
use Rattle.setup_access.specs.declared.found.Taking.{Taking}
use Rattle.setup_access.specs.declared.found.Taking.TheVariants as takings
use Rattle.setup_access.specs.declared.outcome.Outcome.{Outcome}
use Rattle.setup_access.specs.declared.outcome.Outcome.TheVariants.{Capacity, Dropped, Lost, Nothing, Quiet, Report, Told, Unencodable, Unknown}
use Rattle.setup_access.specs.declared.outcome.Watchpoint.{Watchpoint}
use Rattle.slot_table.specs.declared.index_order.place.ProbeIndex.{ProbeIndex}
use Rattle.setup_access.specs.declared.setup.Watching.{Watching}
use Rattle.setup_access.specs.declared.setup.Watching.TheVariants as watchings

-- the record ends a look-up of this access: the load of the third index, whose word doesn't match; or of one of the
-- three whose word does
abbrev pub EndsLookUp : Setting → Access → Option Watchpoint → Record → Type 0
EndsLookUp s a None last =
    (word : ℕ) × (last ≡ made s.task (Load (slot_of s a + 2)) (answers.Word word)) × ¬ Hits s.rules.layout a word
EndsLookUp s a (Some found) last =
    (place : ProbeIndex) × (found.index ≡ look_index place (slot_of s a)) × Hits s.rules.layout a found.word
    × (last ≡ made s.task (Load found.index) (answers.Word found.word))

-- the record is a load of the pair at an index, and the finder's half stood
abbrev pub HearsFinder : Setting → ℕ → ℕ → Record → Type 0
HearsFinder s setter finder last =
    (index : ℕ) × (last ≡ made s.task (PairLoad index) (answers.Halves setter finder)) × (0 < finder)

-- the record is one at which an outcome of this access falls: the load that ends the look-up, where nothing comes of it
-- or no word stands for it (an access with a mask takes nothing of what it found), else the step that settles it
abbrev pub FallsAt : Setting → Access → Outcome → Record → Type 0
FallsAt s a Nothing last = EndsLookUp s a None last ⊎ ((found : Watchpoint) × IsSome a.mask × EndsLookUp s a (Some found) last)
FallsAt s a Lost last = (index word : ℕ) × (last ≡ made s.task (TryConsume index word) (answers.Flag false))
FallsAt s a (Told pair) last = (index : ℕ) × (last ≡ made s.task (Tell index pair.finder) answers.Done) × (pair.finder ≡ ticket_number a)
FallsAt s a Capacity last = (word : ℕ) × (last ≡ made s.task (Insert (slot_of s a) word) (answers.Flag false))
FallsAt s a Unencodable last = EndsLookUp s a None last
FallsAt s a Quiet last = (index : ℕ) × (last ≡ made s.task (Consume index) (answers.Flag true))
FallsAt s a (Report pair seen) last = HearsFinder s pair.setter pair.finder last
FallsAt s a (Unknown old new) last = (index : ℕ) × (last ≡ made s.task (Consume index) (answers.Flag true))
FallsAt s a (Dropped reason) last = (setter finder : ℕ) × HearsFinder s setter finder last

-- the outcome falls at one of these records
abbrev pub FallsIn : Setting → List Record → Fallen → Type 0
FallsIn s records fallen =
    (earlier : List Record) × (last : Record) × (records ≡ earlier ++ last ∷ fallen.later) × FallsAt s fallen.access fallen.outcome last

-- each of the outcomes does
abbrev pub AllFallIn : Setting → List Record → List Fallen → Type 0
AllFallIn s records [] = Unit {0}
AllFallIn s records (first ∷ others) = FallsIn s records first × AllFallIn s records others

-- where an answer ends a part of a check, its outcome falls at that record
abbrev pub TakingFalls : Setting → Access → Taking → Record → Type 0
TakingFalls s a (takings.Going found) last = Unit {0}
TakingFalls s a (takings.Over outcome) last = FallsAt s a outcome last

abbrev pub WatchingFalls : Setting → Access → Watching → Record → Type 0
WatchingFalls s a (watchings.Going setup) last = Unit {0}
WatchingFalls s a watchings.Full last = FallsAt s a Capacity last
WatchingFalls s a (watchings.Judged index outcome) last = FallsAt s a outcome last

-- an outcome, if an answer gives one, falls at that record
abbrev pub GivesAt : Setting → Access → Option Outcome → Record → Type 0
GivesAt s a None last = Unit {0}
GivesAt s a (Some outcome) last = FallsAt s a outcome last
