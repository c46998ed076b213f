-- The discipline of a task: which step it may make after its own records.
use Rattle.std.specs.Prelude.{◌≡◌, ◌==◌, ◌<◌, ◌⊎◌, ℕ, Bool, true, false, List, [], ◌∷◌, Option}
use Rattle.std.specs.Prelude.{None, Some, IsTrue, if◌then◌else◌}
use Rattle.access_types.specs.Ticket.{task_in}
use Rattle.slot.specs.Pair.{Halves}
use Rattle.slot_table.specs.Records.{Legal, records_of}
use Rattle.slot_table.specs.Words.{words_at_first}
use Rattle.slot_table.specs.declared.discipline.InHand.{InHand}
use Rattle.slot_table.specs.declared.discipline.Part.{Part}
use Rattle.slot_table.specs.declared.discipline.Part.TheVariants.{Inserted, Named, Untouched, Hit}
use Rattle.slot_table.specs.declared.discipline.Part.TheVariants.{Cleared, Taken}
use Rattle.slot_table.specs.declared.records.Record.{Record}
use Rattle.slot_table.specs.declared.step.Answer.{Answer}
use Rattle.slot_table.specs.declared.step.Answer.TheVariants as answers
use Rattle.slot_table.specs.declared.step.Step.{Step}
use Rattle.slot_table.specs.declared.step.Step.TheVariants.{Load, Insert, TryConsume, Consume}
use Rattle.slot_table.specs.declared.step.Step.TheVariants.{Remove, PairLoad, Name, Tell, Clear}
use Rattle.slot_table.specs.declared.step.Step.TheVariants.{CellLoad, CellExchange, LockTry}
use Rattle.slot_table.specs.declared.step.Step.TheVariants.{LockStore, Clock}

-- a step of a handshake puts it into the task's hand, its last step, the setter's remove or the
-- finder's tell, takes it out; any other step leaves what was there
abbrev pub hand_after : Step → Answer → Option InHand → Option InHand
hand_after (Insert index word) (answers.Flag true) before =
    Some (record { index = index; part = Inserted word })
hand_after (TryConsume index word) (answers.Flag true) before =
    Some (record { index = index; part = Taken word })
hand_after (Name index ticket) answer before = Some (record { index = index; part = Named ticket })
hand_after (Consume index) (answers.Flag true) before =
    Some (record { index = index; part = Untouched })
hand_after (Consume index) (answers.Flag false) before = Some (record { index = index; part = Hit })
hand_after (Clear index) answer before = Some (record { index = index; part = Cleared })
hand_after (Remove index) answer before = None
hand_after (Tell index ticket) answer before = None
hand_after step answer before = before

-- what a task has in hand after its records, the latest first
abbrev pub in_hand : List Record → Option InHand
in_hand [] = None
in_hand (latest ∷ earlier) = hand_after latest.step latest.answer (in_hand earlier)

-- the part of what is in hand, if it is at this index
abbrev pub part_at : ℕ → Option InHand → Option Part
part_at index None = None
part_at index (Some hand) = if hand.index == index then Some hand.part else None

-- a pair load at the index has its answer heard, and a step of a handshake there has nothing heard
-- any more
abbrev pub heard_after : ℕ → Step → Answer → Option Halves → Option Halves
heard_after index (PairLoad at) (answers.Halves setter finder) before =
    if at == index then Some (record { setter = setter; finder = finder }) else before
heard_after index (Insert at word) (answers.Flag true) before = if at == index then None else before
heard_after index (TryConsume at word) (answers.Flag true) before =
    if at == index then None else before
heard_after index (Name at ticket) answer before = if at == index then None else before
heard_after index (Consume at) answer before = if at == index then None else before
heard_after index (Clear at) answer before = if at == index then None else before
heard_after index (Remove at) answer before = if at == index then None else before
heard_after index (Tell at ticket) answer before = if at == index then None else before
heard_after index step answer before = before

-- the halves that a task's last pair load at an index answered, where it made one since its last
-- step of a handshake there
abbrev pub heard : ℕ → List Record → Option Halves
heard index [] = None
heard index (latest ∷ earlier) = heard_after index latest.step latest.answer (heard index earlier)

-- a load of the index
abbrev pub load_after : ℕ → Step → Answer → Option ℕ → Option ℕ
load_after index (Load at) (answers.Word word) before = if at == index then Some word else before
load_after index step answer before = before

-- the word that a task's last load of an index answered
abbrev pub last_load : ℕ → List Record → Option ℕ
last_load index [] = None
last_load index (latest ∷ earlier) =
    load_after index latest.step latest.answer (last_load index earlier)

-- a try of the lock that found it free takes it, and a store frees it
abbrev pub holds_after : ℕ → Step → Answer → Bool → Bool
holds_after lock (LockTry at task) (answers.Flag true) before = if at == lock then true else before
holds_after lock (LockStore at) answer before = if at == lock then false else before
holds_after lock step answer before = before

-- does a task hold a lock?
abbrev pub holds : ℕ → List Record → Bool
holds lock [] = false
holds lock (latest ∷ earlier) = holds_after lock latest.step latest.answer (holds lock earlier)

-- a ticket of the task's own
abbrev pub IsOwnTicket : ℕ → ℕ → Type 0
IsOwnTicket task ticket = (0 < ticket) × (task_in ticket ≡ task)

-- the task has this part in the handshake at an index
abbrev pub HasPart : ℕ → Part → List Record → Type 0
HasPart index part own = in_hand own ≡ Some (record { index = index; part = part })

-- the setter's half stood when the task last loaded the pair
abbrev pub HasHeardSetter : ℕ → List Record → Type 0
HasHeardSetter index own = (both : Halves) × (heard index own ≡ Some both) × (0 < both.setter)

-- the finder's half stood when the task last loaded the pair
abbrev pub HasHeardFinder : ℕ → List Record → Type 0
HasHeardFinder index own = (both : Halves) × (heard index own ≡ Some both) × (0 < both.finder)

-- the step is one that a task may make after its own records, the latest first
abbrev pub Allows : ℕ → List Record → Step → Type 0
Allows task own (Load index) = Unit {0}
-- nothing is set up, taken or timed while a handshake is in hand; what is claimed is what the last
-- load there answered
Allows task own (Insert index word) = (1 < word) × (in_hand own ≡ None)
Allows task own (TryConsume index word) =
    (1 < word) × (last_load index own ≡ Some word) × (in_hand own ≡ None)
Allows task own Clock = in_hand own ≡ None
-- the setter names itself, consumes, waits for the finder's half if its word was hit, clears and
-- removes
Allows task own (Name index ticket) =
    IsOwnTicket task ticket × (word : ℕ) × HasPart index (Inserted word) own
Allows task own (Consume index) = (ticket : ℕ) × HasPart index (Named ticket) own
Allows task own (Clear index) =
    HasPart index Untouched own ⊎ (HasPart index Hit own × HasHeardFinder index own)
Allows task own (Remove index) = HasPart index Cleared own
-- the finder waits for the setter's half and tells
Allows task own (Tell index ticket) =
    IsOwnTicket task ticket × ((word : ℕ) × HasPart index (Taken word) own)
    × HasHeardSetter index own
Allows task own (PairLoad index) = Unit {0}
Allows task own (CellLoad cell) = Unit {0}
Allows task own (CellExchange cell expected new) = Unit {0}
-- a lock is taken for the task itself, and freed by its holder
Allows task own (LockTry lock holder) = holder ≡ task
Allows task own (LockStore lock) = IsTrue (holds lock own)

-- the task's own records, the latest first: each step is one that those before it allow
abbrev pub Discipline : ℕ → List Record → Type 0
Discipline task [] = Unit {0}
Discipline task (latest ∷ earlier) = Discipline task earlier × Allows task earlier latest.step

-- nothing is in hand: each arming has its remove, and each taking its tell
abbrev pub IsFinished : List Record → Type 0
IsFinished own = in_hand own ≡ None

-- each task of a list keeps the discipline
abbrev pub AllKeepDiscipline : List Record → Type 0
AllKeepDiscipline records = (task : ℕ) → Discipline task (records_of task records)

-- no task of a list has a check unfinished
abbrev pub AllAreFinished : List Record → Type 0
AllAreFinished records = (task : ℕ) → IsFinished (records_of task records)

-- the list is legal from the words of a new board on, and each task in it keeps the discipline
pub record LegalInDiscipline (page_slots locks : ℕ) (cells : List ℕ)
    (records : List Record) : Type 0 where
  pub legal : Legal (words_at_first page_slots locks cells) records
  pub keeps : AllKeepDiscipline records
