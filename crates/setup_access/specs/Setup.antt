-- The watch of an access as records: insert, name, load, load again, consume, and the verdict.
use Rattle.std.specs.Prelude.{◌≡◌, ℕ, List, [], ◌∷◌, Option, None, Some, MatchBool}
use Rattle.access_types.specs.Access.{Access}
use Rattle.access_types.specs.Ticket.{ticket_number}
use Rattle.slot.specs.Pair.{Halves}
use Rattle.slot_table.specs.declared.records.Record.{Record}
use Rattle.slot_table.specs.declared.step.Step.TheVariants.{Clear, Consume, Insert, Name, Remove}
use Rattle.setup_access.specs.Found.{Hears, finder_half}
use Rattle.setup_access.specs.Records.{MakesDone, MakesFlag}
use Rattle.setup_access.specs.Setting.{Setting, slot_of, try_order}
use Rattle.setup_access.specs.Values.{LoadsValue, both_values}
use Rattle.setup_access.specs.Verdicts.{HitOutcome, UntouchedOutcome}
use Rattle.setup_access.specs.declared.outcome.Outcome.{Outcome}

-- the records begin with tries to insert a word at these indices, in order, up to the first that is accepted; it stands
-- there then, or nowhere, and the rest follows
abbrev pub TriesInsert : ℕ → ℕ → List ℕ → List Record → Option ℕ → List Record → Type 0
TriesInsert task word [] records place rest = (place ≡ None) × (rest ≡ records)
TriesInsert task word (index ∷ indices) records place rest = MakesFlag task (Insert index word) (λ accepted later.
    MatchBool accepted ((place ≡ Some index) × (rest ≡ later)) (TriesInsert task word indices later place rest)) records

-- the records begin with an insertion
abbrev pub Inserts : Setting → Access → ℕ → List Record → Option ℕ → List Record → Type 0
Inserts s a word = TriesInsert s.task word (try_order (slot_of s a))

-- the setter waits for the finder's half, and there is the verdict for two sides
abbrev pub JudgesHit : Setting → Access → ℕ → Option (ℕ × ℕ) → List Record → Outcome → List Record → Type 0
JudgesHit s a index values records outcome rest =
    (both : Halves) × Hears finder_half s.task index records both rest × HitOutcome s a values both outcome

-- the setter consumes its word. Untouched, there is the verdict on that; hit, that for two sides
abbrev pub Judges : Setting → Access → ℕ → Option (ℕ × ℕ) → List Record → Outcome → List Record → Type 0
Judges s a index values records outcome rest = MakesFlag s.task (Consume index) (λ untouched later.
    MatchBool untouched (UntouchedOutcome s a values outcome × (rest ≡ later)) (JudgesHit s a index values later outcome rest)) records

-- the setter watches: it loads its bytes before the stall and after it, and consumes
abbrev pub Watches : Setting → Access → ℕ → List Record → Outcome → List Record → Type 0
Watches s a index records outcome rest =
    (old new : Option ℕ) × (stalled consumed : List Record)
    × LoadsValue s a records old stalled × LoadsValue s a stalled new consumed
    × Judges s a index (both_values old new) consumed outcome rest

-- a word stands at an index: the setter names itself there, and watches
abbrev pub Arms : Setting → Access → ℕ → List Record → Outcome → List Record → Type 0
Arms s a index records outcome rest =
    MakesDone s.task (Name index (ticket_number a)) (λ later. Watches s a index later outcome rest) records

-- a watch that is over: where it was, and its outcome
pub record Judged : Type 0 where
  pub index : ℕ
  pub outcome : Outcome

-- what follows on an insertion: a watch, if the word stands somewhere
abbrev pub WatchesAt : Setting → Access → Option ℕ → List Record → Option Judged → List Record → Type 0
WatchesAt s a None records judged rest = (judged ≡ None) × (rest ≡ records)
WatchesAt s a (Some index) records judged rest =
    (outcome : Outcome) × Arms s a index records outcome rest × (judged ≡ Some (record { index = index; outcome = outcome }))

-- the records begin with a watch under a word, up to its verdict; or no index was free for it
abbrev pub SetsUp : Setting → Access → ℕ → List Record → Option Judged → List Record → Type 0
SetsUp s a word records judged rest =
    (place : Option ℕ) × (later : List Record) × Inserts s a word records place later × WatchesAt s a place later judged rest

-- the setter gives its index back: it clears the pair, then removes its word
abbrev pub Frees : Setting → ℕ → List Record → List Record → Type 0
Frees s index records rest =
    MakesDone s.task (Clear index) (MakesDone s.task (Remove index) (λ after. rest ≡ after)) records
