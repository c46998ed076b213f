-- The armings in a list of records, who took, named and told each, and that none is taken or told twice.
use Rattle.std.specs.Prelude.{◌≡◌, ◌==◌, ◌&&◌, ℕ, true, List, [], ◌∷◌, Option, None, Some, length}
use Rattle.std.specs.Prelude.{if◌then◌else◌}
use Rattle.std.specs.List.{cons_option}
use Rattle.slot_table.specs.declared.records.Record.{Record}
use Rattle.slot_table.specs.declared.step.Answer.{Answer}
use Rattle.slot_table.specs.declared.step.Answer.TheVariants as answers
use Rattle.slot_table.specs.declared.step.Step.{Step}
use Rattle.slot_table.specs.declared.step.Step.TheVariants.{Insert, TryConsume, Name, Tell}

-- an arming, an insertion that succeeded: who made it, and its watch word
pub record Arming : Type 0 where
  pub setter : ℕ
  pub word : ℕ

-- an arming at the index is the last one there
abbrev pub armed_after : ℕ → ℕ → Step → Answer → Option Arming → Option Arming
armed_after index task (Insert at word) (answers.Flag true) before =
    if at == index then Some (record { setter = task; word = word }) else before
armed_after index task step answer before = before

-- the last arming at an index
abbrev pub last_arming : ℕ → List Record → Option Arming
last_arming index [] = None
last_arming index (latest ∷ earlier) =
    armed_after index latest.task latest.step latest.answer (last_arming index earlier)

-- a new arming at the index is taken by nobody; a taking, a try that succeeded, is of the last one
-- there
abbrev pub taken_after : ℕ → ℕ → Step → Answer → Option ℕ → Option ℕ
taken_after index task (Insert at word) (answers.Flag true) before =
    if at == index then None else before
taken_after index task (TryConsume at word) (answers.Flag true) before =
    if at == index then Some task else before
taken_after index task step answer before = before

-- the finder: who took the last arming at an index
abbrev pub finder_at : ℕ → List Record → Option ℕ
finder_at index [] = None
finder_at index (latest ∷ earlier) =
    taken_after index latest.task latest.step latest.answer (finder_at index earlier)

-- nobody has named the setter of a new arming; a name at the index is for the last one there
abbrev pub named_after : ℕ → Step → Answer → Option ℕ → Option ℕ
named_after index (Insert at word) (answers.Flag true) before = if at == index then None else before
named_after index (Name at ticket) answer before = if at == index then Some ticket else before
named_after index step answer before = before

-- the ticket by which the setter of the last arming at an index has named itself
abbrev pub named_at : ℕ → List Record → Option ℕ
named_at index [] = None
named_at index (latest ∷ earlier) =
    named_after index latest.step latest.answer (named_at index earlier)

-- nobody has told the setter of a new arming; a tell at the index is for the last one there
abbrev pub told_after : ℕ → Step → Answer → Option ℕ → Option ℕ
told_after index (Insert at word) (answers.Flag true) before = if at == index then None else before
told_after index (Tell at ticket) answer before = if at == index then Some ticket else before
told_after index step answer before = before

-- the ticket that the setter of the last arming at an index was told
abbrev pub told_at : ℕ → List Record → Option ℕ
told_at index [] = None
told_at index (latest ∷ earlier) =
    told_after index latest.step latest.answer (told_at index earlier)

-- a taking is of an arming that nobody took before, or told of, with its word; a tell is for one
-- that was not told of before
abbrev pub MeetsAnew : Step → Answer → List Record → Type 0
MeetsAnew (TryConsume index word) (answers.Flag true) earlier =
    ((setter : ℕ) × (last_arming index earlier ≡ Some (record { setter = setter; word = word })))
    × (finder_at index earlier ≡ None)
    × (told_at index earlier ≡ None)
MeetsAnew (Tell index ticket) answer earlier = told_at index earlier ≡ None
MeetsAnew step answer earlier = Unit {0}

-- no two takings have the same arming, the last one at their index before them, and no two tells
abbrev pub MeetOnce : List Record → Type 0
MeetOnce [] = Unit {0}
MeetOnce (latest ∷ earlier) = MeetOnce earlier × MeetsAnew latest.step latest.answer earlier

-- an arming's number in a list is how many records stood before it
abbrev pub number_after : ℕ → Step → Answer → ℕ → Option ℕ → Option ℕ
number_after index (Insert at word) (answers.Flag true) number before =
    if at == index then Some number else before
number_after index step answer number before = before

-- the number of the last arming at an index
abbrev pub last_arming_number : ℕ → List Record → Option ℕ
last_arming_number index [] = None
last_arming_number index (latest ∷ earlier) =
    number_after index latest.step latest.answer (length earlier) (last_arming_number index earlier)

-- an arming that this task makes at the index
abbrev pub number_made_after : ℕ → ℕ → ℕ → Step → Answer → ℕ → Option ℕ → Option ℕ
number_made_after task index maker (Insert at word) (answers.Flag true) number before =
    if at == index && maker == task then Some number else before
number_made_after task index maker step answer number before = before

-- the number of the arming that a task made last at an index
abbrev pub number_made : ℕ → ℕ → List Record → Option ℕ
number_made task index [] = None
number_made task index (latest ∷ earlier) =
    number_made_after task index latest.task latest.step latest.answer (length earlier)
    (number_made task index earlier)

-- a taking by this task at the index is of the last arming there
abbrev pub number_taken_after : ℕ → ℕ → ℕ → Step → Answer → Option ℕ → Option ℕ → Option ℕ
number_taken_after task index maker (TryConsume at word) (answers.Flag true) last before =
    if at == index && maker == task then last else before
number_taken_after task index maker step answer last before = before

-- the number of the arming that a task's last taking at an index took
abbrev pub number_taken : ℕ → ℕ → List Record → Option ℕ
number_taken task index [] = None
number_taken task index (latest ∷ earlier) =
    number_taken_after task index latest.task latest.step latest.answer
    (last_arming_number index earlier) (number_taken task index earlier)

-- a taking is of the last arming at its index
abbrev pub with_taken : Step → Answer → List Record → List ℕ → List ℕ
with_taken (TryConsume index word) (answers.Flag true) earlier before =
    cons_option (last_arming_number index earlier) before
with_taken step answer earlier before = before

-- the numbers of the armings of all takings, the latest first
abbrev pub armings_taken : List Record → List ℕ
armings_taken [] = []
armings_taken (latest ∷ earlier) =
    with_taken latest.step latest.answer earlier (armings_taken earlier)

-- so is a tell
abbrev pub with_told : Step → List Record → List ℕ → List ℕ
with_told (Tell index ticket) earlier before = cons_option (last_arming_number index earlier) before
with_told step earlier before = before

-- the numbers of the armings of all tells, the latest first
abbrev pub armings_told : List Record → List ℕ
armings_told [] = []
armings_told (latest ∷ earlier) = with_told latest.step earlier (armings_told earlier)
