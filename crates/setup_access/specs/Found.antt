-- What an access makes of a watchpoint that it found, as records: it tries to take it, and tells its setter.
use Rattle.std.specs.Prelude.{◌≡◌, ◌<◌, ◌⊎◌, ℕ, List, [], ◌∷◌, MatchBool, MatchOption}
use Rattle.access_types.specs.Access.{Access}
use Rattle.access_types.specs.Ticket.{ticket_number}
use Rattle.slot.specs.Pair.{Halves}
use Rattle.slot_table.specs.declared.records.Record.{Record}
use Rattle.slot_table.specs.declared.step.Step.TheVariants.{PairLoad, Tell, TryConsume}
use Rattle.setup_access.specs.Records.{MakesDone, MakesFlag, OnHalves}
use Rattle.setup_access.specs.Setting.{Setting}
use Rattle.setup_access.specs.declared.outcome.Outcome.{Outcome}
use Rattle.setup_access.specs.declared.outcome.Outcome.TheVariants.{Lost, Nothing, Told}
use Rattle.setup_access.specs.declared.outcome.Watchpoint.{Watchpoint}

-- the records begin with loads of the pair at an index, as many as it takes until this half stands; both halves were
-- heard then, and the rest follows
abbrev pub Hears : (Halves → ℕ) → ℕ → ℕ → List Record → Halves → List Record → Type 0
Hears half task index [] both rest = ⊥
Hears half task index (first ∷ later) both rest =
    (first.task ≡ task) × (first.step ≡ PairLoad index) × OnHalves first.answer (λ heard.
    ((0 < half heard) × (both ≡ heard) × (rest ≡ later))
    ⊎ ((half heard ≡ 0) × Hears half task index later both rest))

-- the setter's half of a pair
abbrev pub setter_half : Halves → ℕ
setter_half both = both.setter

-- the finder's half of a pair
abbrev pub finder_half : Halves → ℕ
finder_half both = both.finder

-- the finder tells its own ticket to the setter that it heard
abbrev pub TellsTo : Setting → Access → ℕ → ℕ → List Record → Outcome → List Record → Type 0
TellsTo s a index setter records outcome rest = MakesDone s.task (Tell index (ticket_number a)) (λ after.
    (outcome ≡ Told (record { setter = setter; finder = ticket_number a })) × (rest ≡ after)) records

-- it does so once the setter has named itself
abbrev pub FinderTells : Setting → Access → ℕ → List Record → Outcome → List Record → Type 0
FinderTells s a index records outcome rest =
    (both : Halves) × (later : List Record) × Hears setter_half s.task index records both later × TellsTo s a index both.setter later outcome rest

-- the task tries to take the watchpoint that was found, by the word that was read: taken, it tells its setter; refused,
-- it is lost
abbrev pub Takes : Setting → Access → Watchpoint → List Record → Outcome → List Record → Type 0
Takes s a found records outcome rest = MakesFlag s.task (TryConsume found.index found.word) (λ taken later.
    MatchBool taken (FinderTells s a found.index later outcome rest) ((outcome ≡ Lost) × (rest ≡ later))) records

-- a watchpoint was found: an access with a mask takes nothing
abbrev pub FoundWatchpoint : Setting → Access → Watchpoint → List Record → Outcome → List Record → Type 0
FoundWatchpoint s a found records outcome rest =
    MatchOption a.mask (Takes s a found records outcome rest) (λ mask. (outcome ≡ Nothing) × (rest ≡ records))
