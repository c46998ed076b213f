-- What stands at one index, apart from lists: the words, each task's part, the last arming, and how
-- far its handshake is.
use Rattle.std.proofs.Common.{◌≡◌, ◌≢◌, ◌<◌, ◌⊎◌, ℕ, cond, eqb, not, ◌||◌, List, ◌∷◌, Option, None}
use Rattle.std.proofs.Common.{Some}
use Rattle.std.specs.Int.Bits.{bit_or}
use Rattle.slot.specs.Pair.{Halves, unnamed}
use Rattle.slot_table.specs.Armings.{Arming}
use Rattle.slot_table.specs.Discipline.{IsOwnTicket}
use Rattle.slot_table.specs.declared.discipline.Part.{Part}
use Rattle.slot_table.specs.declared.discipline.Part.TheVariants.{Inserted, Named, Untouched, Hit}
use Rattle.slot_table.specs.declared.discipline.Part.TheVariants.{Cleared, Taken}
use Rattle.slot_table.specs.Meetings.{Meeting}
use Rattle.slot_table.proofs.Updates.{updated}

-- the last arming at an index: its number, the ticket that its setter named, its finder, and the
-- ticket that was told
pub record Last : Type 0 where
  pub arming : Option Arming
  pub number : Option ℕ
  pub named : Option ℕ
  pub finder : Option ℕ
  pub telling : Option ℕ

-- what words and a list say of one index
pub record View : Type 0 where
  pub word : ℕ
  pub pair : Halves
  pub part : ℕ → Option Part
  pub hears : ℕ → Option Halves
  pub last : Last
  pub told : List Meeting
  pub heard : List Meeting

-- how far the handshake of an arming is: its word stands, fresh or with its setter named; a finder
-- has taken it, or has told too; the setter has found it hit, or untouched, or has cleared the pair
pub data Phase : Type 0 where
  Fresh : Phase
  Watching : (ticket : ℕ) → Phase
  FreshTaken : (finder : ℕ) → Phase
  NamedTaken : (finder ticket : ℕ) → Phase
  NamedTold : (finder ticket telling : ℕ) → Phase
  HitTaken : (finder ticket : ℕ) → Phase
  HitTold : (finder ticket telling : ℕ) → Phase
  HitCleared : (finder ticket telling : ℕ) → Phase
  Quiet : (ticket : ℕ) → Phase
  QuietCleared : (ticket : ℕ) → Phase

-- the watch word, if this one was inserted
abbrev pub word_in : Phase → ℕ → ℕ
word_in Fresh word = word
word_in (Watching ticket) word = word
word_in phase word = 1

-- the pair
abbrev pub pair_in : Phase → Halves
pair_in (Watching ticket) = record { setter = ticket; finder = 0 }
pair_in (NamedTaken finder ticket) = record { setter = ticket; finder = 0 }
pair_in (NamedTold finder ticket telling) = record { setter = ticket; finder = telling }
pair_in (HitTaken finder ticket) = record { setter = ticket; finder = 0 }
pair_in (HitTold finder ticket telling) = record { setter = ticket; finder = telling }
pair_in (Quiet ticket) = record { setter = ticket; finder = 0 }
pair_in phase = unnamed

-- the setter's part
abbrev pub setter_part : Phase → ℕ → Part
setter_part Fresh word = Inserted word
setter_part (Watching ticket) word = Named ticket
setter_part (FreshTaken finder) word = Inserted word
setter_part (NamedTaken finder ticket) word = Named ticket
setter_part (NamedTold finder ticket telling) word = Named ticket
setter_part (HitTaken finder ticket) word = Hit
setter_part (HitTold finder ticket telling) word = Hit
setter_part (HitCleared finder ticket telling) word = Cleared
setter_part (Quiet ticket) word = Untouched
setter_part (QuietCleared ticket) word = Cleared

-- the part of a task that isn't the setter: the finder's until it has told
abbrev pub finder_part : Phase → ℕ → ℕ → Option Part
finder_part (FreshTaken finder) word task = cond (eqb finder task) (Some (Taken word)) None
finder_part (NamedTaken finder ticket) word task = cond (eqb finder task) (Some (Taken word)) None
finder_part (HitTaken finder ticket) word task = cond (eqb finder task) (Some (Taken word)) None
finder_part phase word task = None

-- who took the arming
abbrev pub finder_in : Phase → Option ℕ
finder_in (FreshTaken finder) = Some finder
finder_in (NamedTaken finder ticket) = Some finder
finder_in (NamedTold finder ticket telling) = Some finder
finder_in (HitTaken finder ticket) = Some finder
finder_in (HitTold finder ticket telling) = Some finder
finder_in (HitCleared finder ticket telling) = Some finder
finder_in phase = None

-- what its setter named
abbrev pub named_in : Phase → Option ℕ
named_in Fresh = None
named_in (Watching ticket) = Some ticket
named_in (FreshTaken finder) = None
named_in (NamedTaken finder ticket) = Some ticket
named_in (NamedTold finder ticket telling) = Some ticket
named_in (HitTaken finder ticket) = Some ticket
named_in (HitTold finder ticket telling) = Some ticket
named_in (HitCleared finder ticket telling) = Some ticket
named_in (Quiet ticket) = Some ticket
named_in (QuietCleared ticket) = Some ticket

-- what its finder told
abbrev pub telling_in : Phase → Option ℕ
telling_in (NamedTold finder ticket telling) = Some telling
telling_in (HitTold finder ticket telling) = Some telling
telling_in (HitCleared finder ticket telling) = Some telling
telling_in phase = None

-- a meeting at an index, over the arming with this number
abbrev pub meeting : ℕ → ℕ → ℕ → ℕ → Meeting
meeting index number setter finder =
    record { index = index; number = number; setter = setter; finder = finder }

-- what was told and is not yet heard, before what was heard
abbrev pub told_in : ℕ → ℕ → Phase → List Meeting → List Meeting
told_in index number (NamedTold finder ticket telling) heard =
    meeting index number ticket telling ∷ heard
told_in index number (HitTold finder ticket telling) heard =
    meeting index number ticket telling ∷ heard
told_in index number phase heard = heard

-- the tickets that were given are their tasks' own
abbrev pub owned_in : Phase → ℕ → Type 0
owned_in Fresh setter = Unit {0}
owned_in (Watching ticket) setter = IsOwnTicket setter ticket
owned_in (FreshTaken finder) setter = Unit {0}
owned_in (NamedTaken finder ticket) setter = IsOwnTicket setter ticket
owned_in (NamedTold finder ticket telling) setter =
    IsOwnTicket setter ticket × IsOwnTicket finder telling
owned_in (HitTaken finder ticket) setter = IsOwnTicket setter ticket
owned_in (HitTold finder ticket telling) setter =
    IsOwnTicket setter ticket × IsOwnTicket finder telling
owned_in (HitCleared finder ticket telling) setter =
    IsOwnTicket setter ticket × IsOwnTicket finder telling
owned_in (Quiet ticket) setter = IsOwnTicket setter ticket
owned_in (QuietCleared ticket) setter = IsOwnTicket setter ticket

-- a half that a task heard above 0 still stands
abbrev pub StillStands : Halves → Halves → Type 0
StillStands both pair =
    (0 < both.setter → pair.setter ≡ both.setter) × (0 < both.finder → pair.finder ≡ both.finder)

-- so do all halves that tasks with a part heard
abbrev pub Hears : (ℕ → Option Part) → (ℕ → Option Halves) → Halves → Type 0
Hears part hears pair =
    (task : ℕ) (its : Part) (both : Halves) → part task ≡ Some its → hears task ≡ Some both
    → StillStands both pair

-- no arming is open
pub record Idle (v : View) : Type 0 where
  pub word_is : v.word ≡ 0
  pub pair_is : v.pair ≡ unnamed
  pub nobody : (task : ℕ) → v.part task ≡ None
  pub told : v.told ≡ v.heard

-- an arming is open, and its handshake is in this phase
pub record Open (index : ℕ) (phase : Phase) (v : View) : Type 0 where
  pub setter : ℕ
  pub word : ℕ
  pub number : ℕ
  pub above : 1 < word
  pub word_is : v.word ≡ word_in phase word
  pub pair_is : v.pair ≡ pair_in phase
  pub sets : v.part setter ≡ Some (setter_part phase word)
  pub others : (task : ℕ) → task ≢ setter → v.part task ≡ finder_part phase word task
  pub two : (finder : ℕ) → finder_in phase ≡ Some finder → finder ≢ setter
  pub arming : v.last.arming ≡ Some (record { setter = setter; word = word })
  pub numbered : v.last.number ≡ Some number
  pub named : v.last.named ≡ named_in phase
  pub finder : v.last.finder ≡ finder_in phase
  pub telling : v.last.telling ≡ telling_in phase
  pub own_half : (both : Halves) → v.hears setter ≡ Some both → both.setter ≡ v.pair.setter
  pub told : v.told ≡ told_in index number phase v.heard
  pub owned : owned_in phase setter

-- what the view of an index always is
abbrev pub Fits : ℕ → View → Type 0
Fits index v = Hears v.part v.hears v.pair × (Idle v ⊎ ((phase : Phase) × Open index phase v))

-- the view after each step of a handshake there
abbrev pub after_insert : View → ℕ → ℕ → ℕ → View
after_insert v task word number = record v {
  word = word;
  part = updated v.part task (Some (Inserted word));
  hears = updated v.hears task None;
  last = record {
    arming = Some (record { setter = task; word = word });
    number = Some number;
    named = None;
    finder = None;
    telling = None;
  };
}

abbrev pub after_take : View → ℕ → ℕ → View
after_take v task word = record v {
  word = 1;
  part = updated v.part task (Some (Taken word));
  hears = updated v.hears task None;
  last = record v.last { finder = Some task };
}

abbrev pub named_pair : Halves → ℕ → Halves
named_pair pair ticket = record { setter = bit_or pair.setter ticket; finder = pair.finder }

abbrev pub after_name : View → ℕ → ℕ → View
after_name v task ticket = record v {
  pair = named_pair v.pair ticket;
  part = updated v.part task (Some (Named ticket));
  hears = updated v.hears task None;
  last = record v.last { named = Some ticket };
}

-- what a setter that consumes this word has found
abbrev pub found_in : ℕ → Part
found_in word = cond (not (eqb word 0 || eqb word 1)) Untouched Hit

abbrev pub after_consume : View → ℕ → View
after_consume v task = record v {
  word = 1;
  part = updated v.part task (Some (found_in v.word));
  hears = updated v.hears task None;
}

abbrev pub after_clear : View → ℕ → List Meeting → View
after_clear v task heard = record v {
  pair = unnamed;
  part = updated v.part task (Some Cleared);
  hears = updated v.hears task None;
  heard = heard;
}

abbrev pub after_remove : View → ℕ → View
after_remove v task = record v {
  word = 0;
  part = updated v.part task None;
  hears = updated v.hears task None;
}

abbrev pub told_pair : Halves → ℕ → Halves
told_pair pair ticket = record { setter = pair.setter; finder = bit_or pair.finder ticket }

abbrev pub after_tell : View → ℕ → ℕ → List Meeting → View
after_tell v task ticket told = record v {
  pair = told_pair v.pair ticket;
  part = updated v.part task None;
  hears = updated v.hears task None;
  last = record v.last { telling = Some ticket };
  told = told;
}

abbrev pub after_hear : View → ℕ → View
after_hear v task = record v { hears = updated v.hears task (Some v.pair) }
