-- When an access counts as marked, and when it is silenced, by the moments before its begin.
use Rattle.std.specs.Prelude.{◌≡◌, ◌<◌, ◌&&◌, ◌==◌, ◌%◌, ℕ, List, [], ◌∷◌, ◌++◌, Bool, true, false}
use Rattle.std.specs.Prelude.{IsTrue, count_by, drop, nat_le, nat_lt, not}
use Rattle.access_types.specs.Access.{Access}
use Rattle.access_types.specs.Kind.{is_assertion, is_compound, is_marked, writes}
use Rattle.access_types.specs.History.{History, beginning}
use Rattle.access_types.specs.declared.history.Mark.{Mark}
use Rattle.access_types.specs.declared.history.Mark.TheVariants.{Disable, Enable, NestOpen}
use Rattle.access_types.specs.declared.history.Mark.TheVariants.{NestClose, FlatBegin, FlatEnd}
use Rattle.access_types.specs.declared.history.Mark.TheVariants.{Next}
use Rattle.access_types.specs.declared.history.Happening.{Happening}
use Rattle.access_types.specs.declared.history.Happening.TheVariants as happenings
use Rattle.access_types.specs.declared.history.Moment.{Moment}

-- a plain write that the machine makes in one piece, where plain writes are assumed atomic: not
-- compound, of at most 8 bytes, at a multiple of its size
abbrev pub is_atomic_write : Bool → Access → Bool
is_atomic_write plain_writes_atomic a =
    plain_writes_atomic && writes a.kind && not (is_compound a.kind)
    && nat_lt 0 a.size && nat_le a.size 8 && (a.addr % a.size == 0)

-- an access that kcsan_atomic_next counts: not declared marked, no assertion, and no atomic write
abbrev pub is_countable : Bool → Access → Bool
is_countable plain_writes_atomic a =
    not (is_marked a.kind) && not (is_assertion a.kind)
    && not (is_atomic_write plain_writes_atomic a)

-- the mark of a task that a moment is, in front of others
abbrev pub mark_before : Bool → Happening → List Mark → List Mark
mark_before true (happenings.Mark mark) marks = mark ∷ marks
mark_before _ _ marks = marks

-- the marks of a task, in order
abbrev pub marks_of : ℕ → History → List Mark
marks_of task [] = []
marks_of task (moment ∷ moments) =
    mark_before (moment.task == task) moment.happening (marks_of task moments)

-- the mark turns reporting off for its task
abbrev pub is_disable : Mark → Bool
is_disable Disable = true
is_disable _ = false

-- the mark turns it on again
abbrev pub is_enable : Mark → Bool
is_enable Enable = true
is_enable _ = false

-- the mark begins a nestable atomic region
abbrev pub is_nest_open : Mark → Bool
is_nest_open NestOpen = true
is_nest_open _ = false

-- the mark ends one
abbrev pub is_nest_close : Mark → Bool
is_nest_close NestClose = true
is_nest_close _ = false

-- the mark begins or ends the flat atomic region
abbrev pub is_flat : Mark → Bool
is_flat FlatBegin = true
is_flat FlatEnd = true
is_flat _ = false

-- the mark says how many of the next accesses count as marked
abbrev pub is_next : Mark → Bool
is_next (Next count) = true
is_next _ = false

-- some ending part of the marks has more that raise a count than that lower it
pub record EndsRaised (raises lowers : Mark → Bool) (marks : List Mark) : Type 0 where
  pub from : ℕ
  pub more : count_by lowers (drop from marks) < count_by raises (drop from marks)

-- the last flat mark is a begin
pub record IsFlatOpen (marks : List Mark) : Type 0 where
  pub earlier : List Mark
  pub later : List Mark
  pub split : marks ≡ earlier ++ FlatBegin ∷ later
  pub last : count_by is_flat later ≡ 0

-- a countable access of the task begins
abbrev pub is_countable_begin : Bool → ℕ → Happening → Bool
is_countable_begin plain_writes_atomic task (happenings.Begin access) =
    (access.task == task) && is_countable plain_writes_atomic access
is_countable_begin plain_writes_atomic task _ = false

-- a moment of the task begins a countable access of the task
abbrev pub begins_countable : Bool → ℕ → Moment → Bool
begins_countable plain_writes_atomic task moment =
    is_countable_begin plain_writes_atomic task moment.happening && (moment.task == task)

-- a task's call that the next so many of its accesses count as marked
abbrev pub next_mark : ℕ → ℕ → Moment
next_mark task count = record { task = task; happening = happenings.Mark (Next count) }

-- the task's last next-mark is next(n), and fewer than n of its countable accesses began after it
pub record IsWithinNext (plain_writes_atomic : Bool) (task : ℕ) (moments : History) : Type 0 where
  pub count : ℕ
  pub earlier : History
  pub later : History
  pub split : moments ≡ earlier ++ next_mark task count ∷ later
  pub last : count_by is_next (marks_of task later) ≡ 0
  pub fewer : count_by (begins_countable plain_writes_atomic task) later < count

-- the access counts as marked if these moments come before its begin
pub data CountsAfter (plain_writes_atomic : Bool) (a : Access) (before : History) : Type 0 where
  declared : IsTrue (is_marked a.kind) → CountsAfter plain_writes_atomic a before
  atomic_write : ¬ IsTrue (is_assertion a.kind) → IsTrue (is_atomic_write plain_writes_atomic a)
      → CountsAfter plain_writes_atomic a before
  within_next : ¬ IsTrue (is_assertion a.kind) → ¬ IsTrue (is_atomic_write plain_writes_atomic a)
      → IsWithinNext plain_writes_atomic a.task before → CountsAfter plain_writes_atomic a before
  in_nest : ¬ IsTrue (is_assertion a.kind)
      → EndsRaised is_nest_open is_nest_close (marks_of a.task before)
      → CountsAfter plain_writes_atomic a before
  in_flat : ¬ IsTrue (is_assertion a.kind) → IsFlatOpen (marks_of a.task before)
      → CountsAfter plain_writes_atomic a before

-- the access begins after these moments
pub record BeginsAfter (history : History) (a : Access) (before : History) : Type 0 where
  pub later : History
  pub split : history ≡ before ++ beginning a ∷ later

-- the access counts as marked: decided by what came before its begin
pub record CountedAsMarked (plain_writes_atomic : Bool) (history : History) (a : Access) : Type 0
  where
    pub before : History
    pub begins : BeginsAfter history a before
    pub counts : CountsAfter plain_writes_atomic a before

-- the access is silenced: some ending part of its task's marks before its begin has more disables
-- than enables
pub record Silenced (history : History) (a : Access) : Type 0 where
  pub before : History
  pub begins : BeginsAfter history a before
  pub disabled : EndsRaised is_disable is_enable (marks_of a.task before)
