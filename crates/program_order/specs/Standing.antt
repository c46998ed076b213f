-- What a task goes by, and how far it has come in its text, with its checks.
use Rattle.std.specs.Prelude.{◌↔◌, ◌≡◌, ◌+◌, ◌++◌, ℕ, Bool, List, [], ◌∷◌, IsSomeAnd, IsTrue, false, true, count_by, length, map, nat_le, slice_get, take, if◌then◌else◌}
use Rattle.access_types.specs.Access.{Access}
use Rattle.access_types.specs.History.{History}
use Rattle.access_types.specs.Marked.{CountsAfter, EndsRaised, is_disable, is_enable, is_nest_close, is_nest_open, marks_of}
use Rattle.access_types.specs.Sites.{AccessMap}
use Rattle.access_types.specs.declared.history.Happening.{Happening}
use Rattle.access_types.specs.declared.history.Mark.{Mark}
use Rattle.access_types.specs.declared.history.Mark.TheVariants.{Disable, Enable, FlatBegin, FlatEnd, NestClose, NestOpen, Next}
use Rattle.litmus_semantics.specs.Layout.{cells_of}
use Rattle.litmus_semantics.specs.Task as meaning
use Rattle.litmus_syntax.specs.declared.program.Contents.{Contents}
use Rattle.litmus_syntax.specs.declared.program.Contents.TheVariants.{Lock}
use Rattle.setup_access.specs.OwnAccesses.{IsOwn}
use Rattle.setup_access.specs.Setting as checks
use Rattle.setup_access.specs.declared.begun.Begun.{Begun}
use Rattle.setup_access.specs.Check.{Fallen}
use Rattle.setup_access.specs.declared.rules.Rules.{Rules}
use Rattle.slot_table.specs.declared.records.Record.{Record}

-- what a task goes by: whose text it is and where its variables stand, the rules of the run, and
-- the accesses that tickets name
pub record Setting : Type 0 where
  pub text : meaning.Setting
  pub rules : Rules
  pub sites : AccessMap

-- what its checks go by
abbrev pub checks_of : Setting → checks.Setting
checks_of s = record {
  task = s.text.task;
  rules = s.rules;
  cells = cells_of s.text.places s.text.variables;
  sites = s.sites;
}

-- Where a task stood when so many of its records were still to come: what it had done by then, with
-- its registers, and how many of its calls had had nothing to end.
pub record Point : Type 0 where
  pub to_come : ℕ
  pub progress : meaning.Progress
  pub unbalanced : ℕ

-- what the task did and its registers, how many of its calls had nothing to end, where it stood on
-- the way, how often its sampler was asked, its scoped assertions in force, the oldest first, and
-- the outcomes of its checks
pub record Standing : Type 0 where
  pub progress : meaning.Progress
  pub unbalanced : ℕ
  pub way : List Point
  pub asked : ℕ
  pub scopes : List Begun
  pub outcomes : List Fallen

-- after it has come this far, with these records still to come
abbrev pub coming : Standing → List Record → meaning.Progress → Standing
coming before later progress = record before {
  progress = progress;
  way = before.way ++ record {
    to_come = length later;
    progress = progress;
    unbalanced = before.unbalanced;
  } ∷ [];
}

-- after it has done this too
abbrev pub doing : Standing → List Record → List Happening → Standing
doing before later does = coming before later (meaning.doing before.progress does)

-- after a register has got a value
abbrev pub registered : Standing → List Record → ℕ → ℕ → Standing
registered before later register value =
    coming before later (meaning.assigning before.progress register value)

-- where it stood, from a point on, when so many records were still to come: what it computes from
-- its last step it has computed before its next
abbrev pub point_by : ℕ → Point → List Point → Point
point_by to_come last [] = last
point_by to_come last (next ∷ points) =
    if nat_le to_come next.to_come then point_by to_come next points else last

-- what the task did, as moments
abbrev pub moments : Setting → Standing → History
moments s before =
    map (λ happening. record { task = s.text.task; happening = happening }) before.progress.did

-- the task's reports are off
abbrev pub IsDisabled : Setting → Standing → Type 0
IsDisabled s before = EndsRaised is_disable is_enable (marks_of s.text.task (moments s before))

-- the task is in a nestable atomic region
abbrev pub IsNested : Setting → Standing → Type 0
IsNested s before = EndsRaised is_nest_open is_nest_close (marks_of s.text.task (moments s before))

-- the mark has nothing to end: it turns reports on that are on, or ends a region outside of any
abbrev pub EndsNothing : Setting → Standing → Mark → Type 0
EndsNothing s before Disable = ⊥
EndsNothing s before Enable = ¬ IsDisabled s before
EndsNothing s before NestOpen = ⊥
EndsNothing s before NestClose = ¬ IsNested s before
EndsNothing s before FlatBegin = ⊥
EndsNothing s before FlatEnd = ⊥
EndsNothing s before (Next count) = ⊥

-- a call is counted that had nothing to end
abbrev pub counting : Bool → Standing → Standing
counting ends_nothing before =
    if ends_nothing then record before { unbalanced = before.unbalanced + 1 } else before

-- an access of the task that begins now, with what is decided then: whether it counts as marked, and
-- whether it is silenced
pub record BeginsNow (s : Setting) (before : Standing) (a : Access) (begun : Begun) : Type 0 where
  pub own : IsOwn (checks_of s) a
  pub access : begun.access ≡ a
  pub marked : IsTrue begun.marked
      ↔ CountsAfter s.rules.plain_writes_atomic a (moments s before)
  pub silenced : IsTrue begun.silenced ↔ IsDisabled s before

abbrev pub is_lock : Contents → Bool
is_lock Lock = true
is_lock contents = false

-- the number of a lock's word: how many locks come before its variable
abbrev pub lock_number : Setting → ℕ → ℕ
lock_number s variable = count_by (λ v. is_lock v.contents) (take variable s.text.variables)

-- the variable of this number is a lock
abbrev pub IsLockAt : Setting → ℕ → Type 0
IsLockAt s variable = IsSomeAnd (slice_get s.text.variables variable) (λ v. IsTrue (is_lock v.contents))
