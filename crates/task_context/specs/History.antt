-- Which context the marks and accesses of a task so far lead to.
use Rattle.std.specs.Prelude.{◌≡◌, ◌+◌, ◌-◌, ◌≤◌, ◌↔◌, ◌++◌, ℕ, List, [], ◌∷◌, Bool, IsTrue}
use Rattle.std.specs.Prelude.{count_by, drop}
use Rattle.access_types.specs.History.{History}
use Rattle.access_types.specs.Marked.{IsFlatOpen, begins_countable, is_disable, is_enable}
use Rattle.access_types.specs.Marked.{is_nest_close, is_nest_open, is_next, marks_of, next_mark}
use Rattle.access_types.specs.declared.history.Happening.{Happening}
use Rattle.access_types.specs.declared.history.Happening.TheVariants as happenings
use Rattle.access_types.specs.declared.history.Mark.{Mark}
use Rattle.task_context.specs.Context.{Context}

-- the largest surplus that an ending part of the marks has, of those that raise a count over those
-- that lower it
pub record IsSurplus (raises lowers : Mark → Bool) (marks : List Mark) (surplus : ℕ) : Type 0 where
  pub from : ℕ
  pub reached : count_by raises (drop from marks) ≡ count_by lowers (drop from marks) + surplus
  pub largest : (other : ℕ)
      → count_by raises (drop other marks) ≤ count_by lowers (drop other marks) + surplus

-- how many of the task's next countable accesses count as marked: none if it made no next-mark,
-- else the n of the last next(n) without those that began after it
pub data IsLeft (plain_writes_atomic : Bool) (task : ℕ) (moments : History) (left : ℕ) : Type 0
  where
    unset : count_by is_next (marks_of task moments) ≡ 0 → left ≡ 0
        → IsLeft plain_writes_atomic task moments left
    set :
        (count : ℕ) (earlier later : History) →
        moments ≡ earlier ++ next_mark task count ∷ later →
        count_by is_next (marks_of task later) ≡ 0 →
        left ≡ count - count_by (begins_countable plain_writes_atomic task) later →
        IsLeft plain_writes_atomic task moments left

-- what the task did so far leads to the context: with one setting for plain writes, and any moments
-- of other tasks
pub record LeadsTo (plain_writes_atomic : Bool) (task : ℕ) (moments : History) (context : Context) :
    Type 0 where
  pub disabled : IsSurplus is_disable is_enable (marks_of task moments) context.disable_count
  pub nested : IsSurplus is_nest_open is_nest_close (marks_of task moments) context.nest_count
  pub flat : IsTrue context.in_flat ↔ IsFlatOpen (marks_of task moments)
  pub next : IsLeft plain_writes_atomic task moments context.atomic_next

-- each history that leads to the old context, followed by this moment of the task, leads to the new
-- one
abbrev pub Follows : Bool → ℕ → Context → Happening → Context → Type 0
Follows plain_writes_atomic task old happening new =
    (moments : History) → LeadsTo plain_writes_atomic task moments old
    → LeadsTo plain_writes_atomic task
    (moments ++ (record { task = task; happening = happening }) ∷ []) new

-- a mark follows in whatever task's history, under either setting
abbrev pub MarkFollows : Context → Mark → Context → Type 0
MarkFollows old mark new =
    (plain_writes_atomic : Bool) (task : ℕ)
    → Follows plain_writes_atomic task old (happenings.Mark mark) new

-- what happens at a moment of its owner concerns the context of a task: the owner is the task, and
-- makes a mark or begins an access of the task
abbrev pub Concerns : ℕ → ℕ → Happening → Type 0
Concerns task owner (happenings.Begin access) = (owner ≡ task) × (access.task ≡ task)
Concerns task owner (happenings.Mark mark) = owner ≡ task
Concerns task owner (happenings.End access) = ⊥
Concerns task owner (happenings.Read bytes value) = ⊥
Concerns task owner (happenings.Write bytes value) = ⊥
Concerns task owner (happenings.Lock lock) = ⊥
Concerns task owner (happenings.Unlock lock) = ⊥

-- what a list of calls says of the counts: neither is above the number of calls that raise it
pub record IsWithinCalls (task : ℕ) (moments : History) (context : Context) : Type 0 where
  pub disabled : context.disable_count ≤ count_by is_disable (marks_of task moments)
  pub nested : context.nest_count ≤ count_by is_nest_open (marks_of task moments)
