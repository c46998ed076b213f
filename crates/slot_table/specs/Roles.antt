-- What stands at an index after a list: its watch word tells whose it is, and what part each task has there.
use Rattle.std.specs.Prelude.{◌≡◌, ◌≢◌, ◌<◌, ◌⊎◌, ℕ, List, Option, None, Some, slice_index}
use Rattle.std.specs.Prelude.{slice_index_or}
use Rattle.slot.specs.Pair.{Halves, unnamed}
use Rattle.slot_table.specs.Armings.{finder_at, last_arming, named_at, told_at}
use Rattle.slot_table.specs.Discipline.{IsOwnTicket, in_hand, part_at}
use Rattle.slot_table.specs.declared.discipline.Part.{Part}
use Rattle.slot_table.specs.declared.discipline.Part.TheVariants.{Inserted, Named, Untouched, Hit}
use Rattle.slot_table.specs.declared.discipline.Part.TheVariants.{Cleared, Taken}
use Rattle.slot_table.specs.Records.{records_of}
use Rattle.slot_table.specs.Words.{Words}
use Rattle.slot_table.specs.declared.records.Record.{Record}

-- the watch word at an index
abbrev pub watch_word_at : ℕ → Words → ℕ
watch_word_at index words = slice_index words.watch_words index

-- the pair at an index
abbrev pub pair_at : ℕ → Words → Halves
pair_at index words = slice_index_or words.pair_words index unnamed

-- the part that a task has in the handshake at an index
abbrev pub part_of : ℕ → ℕ → List Record → Option Part
part_of task index records = part_at index (in_hand (records_of task records))

-- the setter has not named itself since its insert: its half is 0
pub record IsUnnamed (words : Words) (records : List Record) (index setter word : ℕ) : Type 0 where
  pub sets : part_of setter index records ≡ Some (Inserted word)
  pub naming : named_at index records ≡ None
  pub half : (pair_at index words).setter ≡ 0

-- the setter has named itself by a ticket of its own, and has this part: its half is that ticket
pub record IsNamed (words : Words) (records : List Record) (index setter ticket : ℕ)
    (part : Part) : Type 0 where
  pub sets : part_of setter index records ≡ Some part
  pub naming : named_at index records ≡ Some ticket
  pub own : IsOwnTicket setter ticket
  pub half : (pair_at index words).setter ≡ ticket

-- so it has, and has not consumed since, or found its word hit
abbrev pub HasNamed : Words → List Record → ℕ → ℕ → ℕ → Type 0
HasNamed words records index setter ticket =
    IsNamed words records index setter ticket (Named ticket)
    ⊎ IsNamed words records index setter ticket Hit

-- the setter, which had named itself by this ticket, has cleared the pair: both halves are 0
pub record IsCleared (words : Words) (records : List Record)
    (index setter ticket : ℕ) : Type 0 where
  pub sets : part_of setter index records ≡ Some Cleared
  pub naming : named_at index records ≡ Some ticket
  pub own : IsOwnTicket setter ticket
  pub pair : pair_at index words ≡ unnamed

-- watch word 0: no arming is open, and both halves of the pair are 0
pub record IsFree (words : Words) (records : List Record) (index : ℕ) : Type 0 where
  pub word : watch_word_at index words ≡ 0
  pub pair : pair_at index words ≡ unnamed
  pub nobody : (task : ℕ) → part_of task index records ≡ None

-- watch word above 1: one task is the setter, it made the last arming there with this word, and has
-- not consumed; its half is 0 until it has named itself, then its ticket; the finder's half is 0,
-- and nobody took this arming or told of it
pub record IsWatched (words : Words) (records : List Record) (index : ℕ) : Type 0 where
  pub setter : ℕ
  pub word : ℕ
  pub is : watch_word_at index words ≡ word
  pub above : 1 < word
  pub armed : last_arming index records ≡ Some (record { setter = setter; word = word })
  pub stands : IsUnnamed words records index setter word
      ⊎ ((ticket : ℕ) × IsNamed words records index setter ticket (Named ticket))
  pub half : (pair_at index words).finder ≡ 0
  pub untaken : finder_at index records ≡ None
  pub untold : told_at index records ≡ None
  pub alone : (task : ℕ) → task ≢ setter → part_of task index records ≡ None

-- the finder has not told: its half is 0, and the setter has not cleared, whatever else it has done
pub record IsUntold (words : Words) (records : List Record)
    (index setter finder word : ℕ) : Type 0 where
  pub finds : part_of finder index records ≡ Some (Taken word)
  pub sets : IsUnnamed words records index setter word
      ⊎ ((ticket : ℕ) × HasNamed words records index setter ticket)
  pub half : (pair_at index words).finder ≡ 0
  pub telling : told_at index records ≡ None

-- the finder has told, and the setter had named itself before: the finder's half is its ticket
-- until the setter clears the pair
pub record IsTold (words : Words) (records : List Record) (index setter finder : ℕ) : Type 0 where
  pub ticket : ℕ
  pub named : ℕ
  pub own : IsOwnTicket finder ticket
  pub telling : told_at index records ≡ Some ticket
  pub finds : part_of finder index records ≡ None
  pub sets : (HasNamed words records index setter named × ((pair_at index words).finder ≡ ticket))
      ⊎ IsCleared words records index setter named

-- watch word 1, taken: one setter, which has not removed, and one finder, which took this arming
pub record IsTaken (words : Words) (records : List Record) (index : ℕ) : Type 0 where
  pub setter : ℕ
  pub finder : ℕ
  pub word : ℕ
  pub is : watch_word_at index words ≡ 1
  pub two : finder ≢ setter
  pub armed : last_arming index records ≡ Some (record { setter = setter; word = word })
  pub taken : finder_at index records ≡ Some finder
  pub stands : IsUntold words records index setter finder word
      ⊎ IsTold words records index setter finder
  pub alone : (task : ℕ) → task ≢ setter → task ≢ finder → part_of task index records ≡ None

-- watch word 1, quiet: one setter, between its consume and its remove, and nobody took this arming;
-- its half is its ticket until it clears the pair, and the finder's half is 0
pub record IsQuiet (words : Words) (records : List Record) (index : ℕ) : Type 0 where
  pub setter : ℕ
  pub word : ℕ
  pub ticket : ℕ
  pub is : watch_word_at index words ≡ 1
  pub armed : last_arming index records ≡ Some (record { setter = setter; word = word })
  pub stands : IsNamed words records index setter ticket Untouched
      ⊎ IsCleared words records index setter ticket
  pub half : (pair_at index words).finder ≡ 0
  pub untaken : finder_at index records ≡ None
  pub untold : told_at index records ≡ None
  pub alone : (task : ℕ) → task ≢ setter → part_of task index records ≡ None

-- what stands at an index after a list: its watch word tells whose it is
pub data Stands (words : Words) (records : List Record) (index : ℕ) : Type 0 where
  Free : IsFree words records index → Stands words records index
  Watched : IsWatched words records index → Stands words records index
  TakenThere : IsTaken words records index → Stands words records index
  Quiet : IsQuiet words records index → Stands words records index
