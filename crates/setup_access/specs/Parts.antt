-- The step that each part of a check makes next, and the records that it has left.
use Rattle.std.specs.Prelude.{◌≡◌, ◌+◌, ℕ, List, [], ◌∷◌, Option, None, Some}
use Rattle.access_types.specs.Access.{Access}
use Rattle.access_types.specs.Ticket.{ticket_number}
use Rattle.slot_table.specs.declared.records.Record.{Record}
use Rattle.slot_table.specs.declared.step.Answer.{Answer}
use Rattle.slot_table.specs.declared.step.Step.{Step}
use Rattle.slot_table.specs.declared.step.Step.TheVariants.{CellLoad, Consume, Insert, Load, Name, PairLoad, Tell, TryConsume}
use Rattle.setup_access.specs.Find.{LooksUp}
use Rattle.setup_access.specs.Found.{Takes, FinderTells, TellsTo}
use Rattle.setup_access.specs.Setting as spec
use Rattle.setup_access.specs.Setting.{look_order, slot_of}
use Rattle.setup_access.specs.Setup.{Arms, Judged, Judges, JudgesHit, TriesInsert, WatchesAt}
use Rattle.setup_access.specs.declared.source.Source.{Source}
use Rattle.setup_access.specs.Values.{LoadsFrom, both_values}
use Rattle.setup_access.specs.declared.find.Find.{Find}
use Rattle.setup_access.specs.declared.find.Sought.{Sought}
use Rattle.setup_access.specs.declared.find.Sought.TheVariants as sought
use Rattle.setup_access.specs.declared.found.Found.{Found}
use Rattle.setup_access.specs.declared.found.Found.TheVariants as founds
use Rattle.setup_access.specs.declared.found.Taking.{Taking}
use Rattle.setup_access.specs.declared.found.Taking.TheVariants as takings
use Rattle.setup_access.specs.declared.outcome.Outcome.{Outcome}
use Rattle.setup_access.specs.declared.outcome.Watchpoint.{Watchpoint}
use Rattle.slot_table.specs.index_order.Indices.{look_index, try_index}
use Rattle.slot_table.specs.declared.index_order.place.ProbeIndex.{ProbeIndex}
use Rattle.slot_table.specs.declared.index_order.place.ProbeIndex.TheVariants.{First, Second, Third}
use Rattle.setup_access.specs.declared.setup.Setup.{Setup}
use Rattle.setup_access.specs.declared.setup.Setup.TheVariants as setups
use Rattle.setup_access.specs.declared.setup.Watching.{Watching}
use Rattle.setup_access.specs.declared.setup.Watching.TheVariants as watchings

-- a record of the task
abbrev pub made : ℕ → Step → Answer → Record
made task step answer = record { task = task; step = step; answer = answer }

-- the indices that a look-up has left
abbrev pub left_to_look : ProbeIndex → ℕ → List ℕ
left_to_look First slot = look_order slot
left_to_look Second slot = (slot + 1) ∷ (slot + 2) ∷ []
left_to_look Third slot = (slot + 2) ∷ []

-- the indices that an insertion has left
abbrev pub left_to_try : ProbeIndex → ℕ → List ℕ
left_to_try First slot = (slot + 1) ∷ (slot + 2) ∷ slot ∷ []
left_to_try Second slot = (slot + 2) ∷ slot ∷ []
left_to_try Third slot = slot ∷ []

-- the step of a look-up
abbrev pub find_step : spec.Setting → Access → Find → Step
find_step s a find = Load (look_index find.place (slot_of s a))

-- the records are what a look-up has left to do
abbrev pub FindLeft : spec.Setting → Access → Find → List Record → Option Watchpoint → List Record → Type 0
FindLeft s a find = LooksUp s a (left_to_look find.place (slot_of s a))

-- what is left after a word was read
abbrev pub SoughtLeft : spec.Setting → Access → Sought → List Record → Option Watchpoint → List Record → Type 0
SoughtLeft s a (sought.Going find) records found rest = FindLeft s a find records found rest
SoughtLeft s a (sought.Found watchpoint) records found rest = (found ≡ Some watchpoint) × (rest ≡ records)
SoughtLeft s a sought.Missed records found rest = (found ≡ None) × (rest ≡ records)

-- the step of an access that takes a watchpoint
abbrev pub found_step : Access → Found → Step
found_step a (founds.TryConsume watchpoint) = TryConsume watchpoint.index watchpoint.word
found_step a (founds.HearSetter index tries) = PairLoad index
found_step a (founds.Tell index setter) = Tell index (ticket_number a)

-- the records are what it has left to do
abbrev pub FoundLeft : spec.Setting → Access → Found → List Record → Outcome → List Record → Type 0
FoundLeft s a (founds.TryConsume watchpoint) = Takes s a watchpoint
FoundLeft s a (founds.HearSetter index tries) = FinderTells s a index
FoundLeft s a (founds.Tell index setter) = TellsTo s a index setter

-- what is left after an answer
abbrev pub TakingLeft : spec.Setting → Access → Taking → List Record → Outcome → List Record → Type 0
TakingLeft s a (takings.Going found) records outcome rest = FoundLeft s a found records outcome rest
TakingLeft s a (takings.Over over) records outcome rest = (outcome ≡ over) × (rest ≡ records)

-- the step of an access that sets a watchpoint up
abbrev pub setup_step : spec.Setting → Access → Setup → Step
setup_step s a (setups.Insert place word) = Insert (try_index place (slot_of s a)) word
setup_step s a (setups.Name index) = Name index (ticket_number a)
setup_step s a (setups.LoadOld index source) = CellLoad source.cell
setup_step s a (setups.LoadNew index source old) = CellLoad source.cell
setup_step s a (setups.Consume index values) = Consume index
setup_step s a (setups.HearFinder index values tries) = PairLoad index

-- after a refused insertion
abbrev pub after_refusal : ℕ → Option ProbeIndex → Watching
after_refusal word None = watchings.Full
after_refusal word (Some place) = watchings.Going (setups.Insert place word)

-- after the setter has named itself
abbrev pub after_name : ℕ → Option Source → Setup
after_name index None = setups.Consume index None
after_name index (Some source) = setups.LoadOld index source

-- the records are a watch at an index up to its verdict
abbrev pub JudgedAt : ℕ → (List Record → Outcome → List Record → Type 0) → List Record → Option Judged → List Record → Type 0
JudgedAt index Watched records judged rest =
    (outcome : Outcome) × Watched records outcome rest × (judged ≡ Some (record { index = index; outcome = outcome }))

-- both values are loaded
abbrev pub LoadsBoth : spec.Setting → Access → ℕ → Source → List Record → Outcome → List Record → Type 0
LoadsBoth s a index source records outcome rest =
    (old new : Option ℕ) × (stalled consumed : List Record)
    × LoadsFrom s a (Some source) records old stalled × LoadsFrom s a (Some source) stalled new consumed
    × Judges s a index (both_values old new) consumed outcome rest

-- the new value is loaded
abbrev pub LoadsNew : spec.Setting → Access → ℕ → Source → ℕ → List Record → Outcome → List Record → Type 0
LoadsNew s a index source old records outcome rest =
    (new : Option ℕ) × (consumed : List Record)
    × LoadsFrom s a (Some source) records new consumed × Judges s a index (both_values (Some old) new) consumed outcome rest

-- the records are what it has left to do up to its verdict
abbrev pub SetupLeft : spec.Setting → Access → Setup → List Record → Option Judged → List Record → Type 0
SetupLeft s a (setups.Insert place word) records judged rest =
    (at : Option ℕ) × (later : List Record) × TriesInsert s.task word (left_to_try place (slot_of s a)) records at later × WatchesAt s a at later judged rest
SetupLeft s a (setups.Name index) records judged rest = JudgedAt index (Arms s a index) records judged rest
SetupLeft s a (setups.LoadOld index source) records judged rest = JudgedAt index (LoadsBoth s a index source) records judged rest
SetupLeft s a (setups.LoadNew index source old) records judged rest = JudgedAt index (LoadsNew s a index source old) records judged rest
SetupLeft s a (setups.Consume index values) records judged rest = JudgedAt index (Judges s a index values) records judged rest
SetupLeft s a (setups.HearFinder index values tries) records judged rest = JudgedAt index (JudgesHit s a index values) records judged rest

-- what is left after an answer
abbrev pub WatchingLeft : spec.Setting → Access → Watching → List Record → Option Judged → List Record → Type 0
WatchingLeft s a (watchings.Going setup) records judged rest = SetupLeft s a setup records judged rest
WatchingLeft s a watchings.Full records judged rest = (judged ≡ None) × (rest ≡ records)
WatchingLeft s a (watchings.Judged index outcome) records judged rest =
    (judged ≡ Some (record { index = index; outcome = outcome })) × (rest ≡ records)
