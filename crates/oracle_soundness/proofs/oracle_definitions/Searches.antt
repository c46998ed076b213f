-- A search from each start in turn finds what a definition says of some split of the list.
use Rattle.std.proofs.Common.{◌≡◌, ◌<◌, ◌≤◌, ℕ, List, ◌∷◌, Bool, count_by, drop, inl, inr, length}
use Rattle.std.proofs.Common.{take, arith}
use Rattle.std.proofs.Math.ListN.{drop_of_length-le}
use Rattle.std.proofs.lemmas.Bool.{cases_lt}
use Rattle.access_types.specs.Access.{Access}
use Rattle.access_types.specs.History.{History, beginning}
use Rattle.access_types.specs.Marked.{CountedAsMarked, CountsAfter, EndsRaised, IsFlatOpen}
use Rattle.access_types.specs.Marked.{IsWithinNext, Silenced, begins_countable, is_disable}
use Rattle.access_types.specs.Marked.{is_enable, is_flat, is_next, marks_of, next_mark}
use Rattle.access_types.specs.declared.history.Mark.{Mark}
use Rattle.access_types.specs.declared.history.Mark.TheVariants.{FlatBegin}
use Rattle.oracle_soundness.proofs.oracle_definitions.Splits.{between, split_of}

-- where no ending part has more of the one, none is raised
pub not_raised : (raises lowers : Mark → Bool) (marks : List Mark)
    → ((k : ℕ) → k < length marks
    → count_by raises (drop k marks) ≤ count_by lowers (drop k marks))
    → ¬ EndsRaised raises lowers marks
not_raised raises lowers marks none raised =
    elim (cases_lt raised.from (length marks)) [
      | inl within ↦ let at_most = none raised.from within in omega (arith, raised.more)
      | inr past ↦
          let empty = drop_of_length-le marks past in
          let more = rw empty at raised.more in
          omega arith
    ]

-- the first is a flat begin, and the last flat mark
abbrev pub BeginsLastFlat : List Mark → Type 0
BeginsLastFlat marks =
    (later : List Mark) × (marks ≡ FlatBegin ∷ later) × (count_by is_flat later ≡ 0)

pub is_flat_open : (marks : List Mark) (from : ℕ)
    → BeginsLastFlat (drop from marks) → IsFlatOpen marks
is_flat_open marks from here = record {
  earlier = take from marks;
  later = here.0;
  split = split_of marks here.0 FlatBegin from here.1;
  last = here.2;
}

pub not_flat_open : (marks : List Mark)
    → ((k : ℕ) → k < length marks → ¬ BeginsLastFlat (drop k marks)) → ¬ IsFlatOpen marks
not_flat_open marks none is_open =
    let at = between marks is_open.earlier is_open.later FlatBegin is_open.split in
    none (length is_open.earlier) at.within (is_open.later, at.back, is_open.last)

-- the first is the task's last next-mark, and fewer countable accesses begin after it than it says
abbrev pub BeginsLastNext : Bool → ℕ → History → Type 0
BeginsLastNext plain_writes_atomic task moments =
    (count : ℕ) × (later : History)
    × (moments ≡ next_mark task count ∷ later)
    × (count_by is_next (marks_of task later) ≡ 0)
    × (count_by (begins_countable plain_writes_atomic task) later < count)

pub is_within_next : (plain_writes_atomic : Bool) (task : ℕ) (moments : History) (from : ℕ)
    → BeginsLastNext plain_writes_atomic task (drop from moments)
    → IsWithinNext plain_writes_atomic task moments
is_within_next plain_writes_atomic task moments from here = record {
  count = here.0;
  earlier = take from moments;
  later = here.1;
  split = split_of moments here.1 (next_mark task here.0) from here.2;
  last = here.3;
  fewer = here.4;
}

pub not_within_next : (plain_writes_atomic : Bool) (task : ℕ) (moments : History)
    → ((k : ℕ) → k < length moments → ¬ BeginsLastNext plain_writes_atomic task (drop k moments))
    → ¬ IsWithinNext plain_writes_atomic task moments
not_within_next plain_writes_atomic task moments none is =
    let at = between moments is.earlier is.later (next_mark task is.count) is.split in
    none (length is.earlier) at.within (is.count, is.later, at.back, is.last, is.fewer)

-- the access begins after k moments, and is silenced then
abbrev pub IsSilencedAt : History → Access → ℕ → Type 0
IsSilencedAt history a k =
    (later : History) × (drop k history ≡ beginning a ∷ later)
    × EndsRaised is_disable is_enable (marks_of a.task (take k history))

pub is_silenced : (history : History) (a : Access) (k : ℕ)
    → IsSilencedAt history a k → Silenced history a
is_silenced history a k here = record {
  before = take k history;
  begins = record { later = here.0; split = split_of history here.0 (beginning a) k here.1 };
  disabled = here.2;
}

pub not_silenced : (history : History) (a : Access)
    → ((k : ℕ) → k < length history → ¬ IsSilencedAt history a k) → ¬ Silenced history a
not_silenced history a none is =
    let at = between history is.before is.begins.later (beginning a) is.begins.split in
    none (length is.before) at.within (is.begins.later, at.back, rw at.front is.disabled)

-- the access begins after k moments, and counts as marked then
abbrev pub CountsAt : Bool → History → Access → ℕ → Type 0
CountsAt plain_writes_atomic history a k =
    (later : History) × (drop k history ≡ beginning a ∷ later)
    × CountsAfter plain_writes_atomic a (take k history)

pub is_counted : (plain_writes_atomic : Bool) (history : History) (a : Access) (k : ℕ)
    → CountsAt plain_writes_atomic history a k → CountedAsMarked plain_writes_atomic history a
is_counted plain_writes_atomic history a k here = record {
  before = take k history;
  begins = record { later = here.0; split = split_of history here.0 (beginning a) k here.1 };
  counts = here.2;
}

pub not_counted : (plain_writes_atomic : Bool) (history : History) (a : Access)
    → ((k : ℕ) → k < length history → ¬ CountsAt plain_writes_atomic history a k)
    → ¬ CountedAsMarked plain_writes_atomic history a
not_counted plain_writes_atomic history a none is =
    let at = between history is.before is.begins.later (beginning a) is.begins.split in
    none (length is.before) at.within (is.begins.later, at.back, rw at.front is.counts)
