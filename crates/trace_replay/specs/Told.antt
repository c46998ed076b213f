-- What is kept of the takings, the races and the changes of unknown origin that lines told of.
use Rattle.std.specs.Prelude.{◌==◌, ◌&&◌, ◌<◌, ◌^◌, ℕ, List, Bool, length, map, nat_eq}
use Rattle.access_types.specs.Takes.{Take}
use Rattle.report_text.specs.Truth.{AreOneBag, Pair, is_pair, is_take}
use Rattle.trace_replay.specs.Counts.{AreCounts}
use Rattle.trace_replay.specs.declared.told.Told.{Told}

-- a taking, as it is counted: by its finder, its index and its setter
abbrev pub TakeKey : Type 0
TakeKey = ℕ × ℕ × ℕ

abbrev pub take_key : Take → TakeKey
take_key t = (t.finder, t.index, t.setter)

-- the keys are of one taking
abbrev pub is_take_key : TakeKey → TakeKey → Bool
is_take_key k l = (nat_eq k.0 l.0 && nat_eq k.1 l.1) && nat_eq k.2 l.2

abbrev pub is_pair_key : Pair → Pair → Bool
is_pair_key p q = nat_eq p.0 q.0 && nat_eq p.1 q.1

-- these takings, races and changes of unknown origin were told of, and nothing more
pub record WereTold (taken : List Take) (raced : List Pair) (changed : List ℕ) (told : Told) : Type 0 where
  pub takes : AreCounts is_take_key (map take_key taken) told.takes
  pub races : AreCounts is_pair_key raced told.races
  pub origins : AreCounts nat_eq changed told.origins

-- there is room for one more of each
pub record HaveRoom (taken : List Take) (raced : List Pair) (changed : List ℕ) : Type 0 where
  pub takes : length taken < 2 ^ 63
  pub races : length raced < 2 ^ 63
  pub origins : length changed < 2 ^ 63

-- the two lists of each are one bag
pub record AreOne (taken : List Take) (raced : List Pair) (changed : List ℕ)
    (other_taken : List Take) (other_raced : List Pair) (other_changed : List ℕ) : Type 0 where
  pub takes : AreOneBag is_take taken other_taken
  pub races : AreOneBag is_pair raced other_raced
  pub origins : AreOneBag (λ n m. n == m) changed other_changed
