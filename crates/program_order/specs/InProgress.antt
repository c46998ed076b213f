-- Which accesses of a task are in progress, by what it did, and what was decided of each as it began.
use Rattle.std.specs.Prelude.{◌≡◌, ◌↔◌, ℕ, Bool, Contains, IsTrue, List, count_by, false, filter, length, map, true}
use Rattle.access_types.specs.Access.{Access}
use Rattle.access_types.specs.History.{History}
use Rattle.access_types.specs.Marked.{CountedAsMarked, Silenced}
use Rattle.access_types.specs.declared.history.Happening.{Happening}
use Rattle.access_types.specs.declared.history.Happening.TheVariants.{Begin, End}
use Rattle.setup_access.specs.declared.begun.Begun.{Begun}
use Rattle.slot_table.specs.declared.records.Record.{Record}
use Rattle.slot_table.specs.declared.step.Step.{Step}
use Rattle.slot_table.specs.declared.step.Step.TheVariants.{Clock}
use Rattle.program_order.specs.Standing.{Setting, Standing}

-- what a task did, as moments
abbrev pub moments_by : Setting → List Happening → History
moments_by s did = map (λ happening. record { task = s.text.task; happening = happening }) did

-- an access begins or ends
abbrev pub is_bound : Happening → Bool
is_bound (Begin a) = true
is_bound (End a) = true
is_bound happening = false

-- the begins and the ends of accesses, in order
abbrev pub bounds_of : List Happening → List Happening
bounds_of did = filter is_bound did

abbrev pub is_clock : Step → Bool
is_clock Clock = true
is_clock step = false

-- how many of the records are steps of the clock
abbrev pub clock_steps : List Record → ℕ
clock_steps records = count_by (λ (r : Record). is_clock r.step) records

-- the access has begun, and has not ended
pub record IsInProgress (did : List Happening) (a : Access) : Type 0 where
  pub begun : Contains did (Begin a)
  pub unended : ¬ Contains did (End a)

-- An access of the task is in progress after it did this, and so it was decided as it began: whether it counts as
-- marked, and whether it is silenced.
pub record IsInProgressAs (s : Setting) (did : List Happening) (begun : Begun) : Type 0 where
  pub own : begun.access.task ≡ s.text.task
  pub in_progress : IsInProgress did begun.access
  pub marked : IsTrue begun.marked ↔ CountedAsMarked s.rules.plain_writes_atomic (moments_by s did) begun.access
  pub silenced : IsTrue begun.silenced ↔ Silenced (moments_by s did) begun.access

-- Of a task that stands here after these records, the oldest first: each of its steps of the clock began or ended an
-- access, and its accesses in progress are the scoped assertions in force.
pub record AccessesAreTold (s : Setting) (records : List Record) (before : Standing) : Type 0 where
  pub stamped : length (bounds_of before.progress.did) ≡ clock_steps records
  pub scopes : (begun : Begun) → Contains before.scopes begun ↔ IsInProgressAs s before.progress.did begun
