-- What the last step of a task was and what its next is, by its steps.
use Rattle.std.specs.Prelude.{◌≡◌, ℕ, Bool, true, false, List, [], ◌∷◌, Option, None, Some}
use Rattle.slot_table.specs.declared.step.Step.{Step}
use Rattle.slot_table.specs.declared.step.Step.TheVariants.{CellLoad, Clock, Consume, Name, Tell}
use Rattle.task_plan.specs.declared.task_points.points.After.{After}
use Rattle.task_plan.specs.declared.task_points.points.After.TheVariants as afters
use Rattle.task_plan.specs.declared.task_points.points.Before.{Before}
use Rattle.task_plan.specs.declared.task_points.points.Before.TheVariants as befores
use Rattle.task_plan.specs.declared.task_points.points.Latest.{Latest}
use Rattle.task_plan.specs.declared.task_points.points.Latest.TheVariants as latest

-- a step that a task made, and whether an access of it began then
pub record Stepped : Type 0 where
  pub step : Step
  pub begins : Bool

-- a finder told the setter at an index, or an access ended
abbrev pub step_was : Step → Bool → After
step_was (Tell index ticket) begins = afters.Told index
step_was Clock false = afters.Ended
step_was step begins = afters.Other

-- what the last of these steps was, which stand with the latest first
abbrev pub last_was : List Stepped → After
last_was [] = afters.Other
last_was (last ∷ earlier) = step_was last.step last.begins

-- at this index a setter named itself by the last of these steps
abbrev pub name_in : Step → Option ℕ
name_in (Name index ticket) = Some index
name_in step = None

abbrev pub named_at : List Stepped → Option ℕ
named_at [] = None
named_at (last ∷ earlier) = name_in last.step

-- it did by the last but one, and loaded its value then
abbrev pub read_in : Step → Option ℕ → Option ℕ
read_in (CellLoad cell) named = named
read_in step named = None

abbrev pub read_at : List Stepped → Option ℕ
read_at [] = None
read_at (last ∷ earlier) = read_in last.step (named_at earlier)

-- the step follows on the stall of a watch at this index: the value is loaded again, or the watch ends
-- where there is no value
abbrev pub stalls_at : List Stepped → Step → Option ℕ
stalls_at steps (CellLoad cell) = read_at steps
stalls_at steps (Consume index) = named_at steps
stalls_at steps step = None

abbrev pub after_stall : Option ℕ → Before
after_stall None = befores.Other
after_stall (Some index) = befores.Stall index

-- what the next step is, which an access begins with or not
abbrev pub next_is : List Stepped → Step → Bool → Before
next_is steps step true = befores.Begin
next_is steps step false = after_stall (stalls_at steps step)

-- what is kept of these steps
abbrev pub read_then : Option ℕ → Latest
read_then None = latest.Other
read_then (Some index) = latest.Read index

abbrev pub kept_of : Step → Bool → Option ℕ → Latest
kept_of (Name index ticket) begins named = latest.Named index
kept_of (CellLoad cell) begins named = read_then named
kept_of (Tell index ticket) begins named = latest.Told index
kept_of Clock false named = latest.Ended
kept_of step begins named = latest.Other

abbrev pub kept_by : List Stepped → Latest
kept_by [] = latest.Other
kept_by (last ∷ earlier) = kept_of last.step last.begins (named_at earlier)

-- what it tells of the last step
abbrev pub after_of : Latest → After
after_of (latest.Named index) = afters.Other
after_of (latest.Read index) = afters.Other
after_of (latest.Told index) = afters.Told index
after_of latest.Ended = afters.Ended
after_of latest.Other = afters.Other

-- at which index a setter named itself by the last step, and at which it had read its value then
abbrev pub name_of : Latest → Option ℕ
name_of (latest.Named index) = Some index
name_of (latest.Read index) = None
name_of (latest.Told index) = None
name_of latest.Ended = None
name_of latest.Other = None

abbrev pub read_of : Latest → Option ℕ
read_of (latest.Named index) = None
read_of (latest.Read index) = Some index
read_of (latest.Told index) = None
read_of latest.Ended = None
read_of latest.Other = None
