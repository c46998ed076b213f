-- Which parts are a whole search, and what is amiss with others.
use Rattle.std.specs.Prelude.{◌≡◌, ◌==◌, ◌<◌, ◌≤◌, ℕ, Bool, IsTrue, List, Some, false, length, slice_get, string_bytes, take}
use Rattle.std.specs.List.{list_any}
use Rattle.part_search.specs.declared.part_file.part.Part.{Part}
use Rattle.part_search.specs.declared.part_file.whole.PartFault.{PartFault}
use Rattle.part_search.specs.declared.part_file.whole.PartFault.TheVariants.{OtherFile, OtherSettings, OutOfRange, Twice}
use Rattle.part_search.specs.declared.part_file.whole.PartsFault.{PartsFault}
use Rattle.part_search.specs.declared.part_file.whole.PartsFault.TheVariants.{At, Missing, NoPart}

-- the parts are of one file: it has the same name and the same text
abbrev pub AreOfOneFile : (first part : Part) → Type 0
AreOfOneFile first part =
    (string_bytes part.file ≡ string_bytes first.file) × (part.text.items ≡ first.text.items)

-- their searches go by the same, and are shared out among as many
abbrev pub GoByTheSame : (first part : Part) → Type 0
GoByTheSame first part =
    (part.places.items ≡ first.places.items) × (part.settings ≡ first.settings) × (part.parts ≡ first.parts)

-- its number is one of those from 1 to that of all parts, which are at most 65,536
abbrev pub IsInRange : Part → Type 0
IsInRange part = (1 ≤ part.part) × (part.part ≤ part.parts) × (part.parts ≤ 65536)

-- one of the parts has this number
abbrev pub has_number : List Part → (number : ℕ) → Bool
has_number parts number = list_any (λ (part : Part). part.part == number) parts

-- nothing is amiss with a part, given the first of all and those before it
pub record IsRight (first : Part) (before : List Part) (part : Part) : Type 0 where
  pub file : AreOfOneFile first part
  pub settings : GoByTheSame first part
  pub number : IsInRange part
  pub once : has_number before part.part ≡ false

-- What is amiss with a part, given the first of all and those before it. It is the first of these that is.
abbrev pub IsWrong : PartFault → (first : Part) → (before : List Part) → (part : Part) → Type 0
IsWrong OtherFile first before part = ¬ (AreOfOneFile first part)
IsWrong OtherSettings first before part = AreOfOneFile first part × ¬ (GoByTheSame first part)
IsWrong OutOfRange first before part = AreOfOneFile first part × GoByTheSame first part × ¬ (IsInRange part)
IsWrong Twice first before part =
    AreOfOneFile first part × GoByTheSame first part × IsInRange part × IsTrue (has_number before part.part)

-- nothing is amiss with so many parts at the front
abbrev pub AreRight : (first : Part) → (parts : List Part) → (count : ℕ) → Type 0
AreRight first parts count =
    (place : ℕ) (part : Part) → place < count → slice_get parts place ≡ Some part → IsRight first (take place parts) part

-- the parts are a whole search: each number is that of one
pub record AreWhole (parts : List Part) : Type 0 where
  pub first : Part
  pub begins : slice_get parts 0 ≡ Some first
  pub right : AreRight first parts (length parts)
  pub all : (number : ℕ) → 1 ≤ number → number ≤ first.parts → IsTrue (has_number parts number)

-- at this place is the first part with which something is amiss, given the first of all
pub record IsWrongAt (first : Part) (place : ℕ) (fault : PartFault) (parts : List Part) : Type 0 where
  pub part : Part
  pub here : slice_get parts place ≡ Some part
  pub before : AreRight first parts place
  pub wrong : IsWrong fault first (take place parts) part

-- this is the first number, from 1 to that of all parts, that none has
pub record IsFirstMissing (parts : List Part) (count number : ℕ) : Type 0 where
  pub some : 1 ≤ number
  pub within : number ≤ count
  pub missing : has_number parts number ≡ false
  pub before : (other : ℕ) → 1 ≤ other → other < number → IsTrue (has_number parts other)

-- the same, where the parts begin with the first
pub record HasWrong (place : ℕ) (fault : PartFault) (parts : List Part) : Type 0 where
  pub first : Part
  pub begins : slice_get parts 0 ≡ Some first
  pub wrong : IsWrongAt first place fault parts

-- nothing is amiss with any part, and one is missing
pub record LacksOne (number : ℕ) (parts : List Part) : Type 0 where
  pub first : Part
  pub begins : slice_get parts 0 ≡ Some first
  pub right : AreRight first parts (length parts)
  pub missing : IsFirstMissing parts first.parts number

-- why parts are no whole search
abbrev pub IsFault : PartsFault → List Part → Type 0
IsFault NoPart parts = length parts ≡ 0
IsFault (At place fault) parts = HasWrong place fault parts
IsFault (Missing number) parts = LacksOne number parts
