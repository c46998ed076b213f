-- What is kept of a task's steps tells its last one and its next.
use Rattle.std.proofs.Common.{◌≡◌, ℕ, Bool, true, false, List, [], ◌∷◌, None, Option, Some, refl}
use Rattle.slot_table.specs.declared.step.Step.{Step}
use Rattle.slot_table.specs.declared.step.Step.TheVariants.{CellExchange, CellLoad, Clear, Clock, Consume, Insert, Load, LockStore, LockTry, Name, PairLoad, Remove, Tell, TryConsume}
use Rattle.task_plan.specs.task_points.Points.{Stepped, after_of, kept_by, kept_of, last_was, name_in, name_of, named_at, read_at, read_in, read_of, read_then, step_was}
use Rattle.task_plan.specs.declared.task_points.points.After.TheVariants as afters

read_after : (named : Option ℕ) → after_of (read_then named) ≡ afters.Other
read_after None = refl
read_after (Some index) = refl

step_after : (step : Step) (begins : Bool) (named : Option ℕ) → after_of (kept_of step begins named) ≡ step_was step begins
step_after (Load index) begins named = refl
step_after (Insert index word) begins named = refl
step_after (TryConsume index word) begins named = refl
step_after (Consume index) begins named = refl
step_after (Remove index) begins named = refl
step_after (PairLoad index) begins named = refl
step_after (Name index ticket) begins named = refl
step_after (Tell index ticket) begins named = refl
step_after (Clear index) begins named = refl
step_after (CellLoad cell) begins named = read_after named
step_after (CellExchange cell seen new) begins named = refl
step_after (LockTry lock task) begins named = refl
step_after (LockStore lock) begins named = refl
step_after Clock true named = refl
step_after Clock false named = refl

pub kept_after : (steps : List Stepped) → after_of (kept_by steps) ≡ last_was steps
kept_after [] = refl
kept_after (last ∷ earlier) = step_after last.step last.begins (named_at earlier)

read_named : (named : Option ℕ) → name_of (read_then named) ≡ None
read_named None = refl
read_named (Some index) = refl

read_read : (named : Option ℕ) → read_of (read_then named) ≡ named
read_read None = refl
read_read (Some index) = refl

step_named : (step : Step) (begins : Bool) (named : Option ℕ) → name_of (kept_of step begins named) ≡ name_in step
step_named (Load index) begins named = refl
step_named (Insert index word) begins named = refl
step_named (TryConsume index word) begins named = refl
step_named (Consume index) begins named = refl
step_named (Remove index) begins named = refl
step_named (PairLoad index) begins named = refl
step_named (Name index ticket) begins named = refl
step_named (Tell index ticket) begins named = refl
step_named (Clear index) begins named = refl
step_named (CellLoad cell) begins named = read_named named
step_named (CellExchange cell seen new) begins named = refl
step_named (LockTry lock task) begins named = refl
step_named (LockStore lock) begins named = refl
step_named Clock true named = refl
step_named Clock false named = refl

step_read : (step : Step) (begins : Bool) (named : Option ℕ) → read_of (kept_of step begins named) ≡ read_in step named
step_read (Load index) begins named = refl
step_read (Insert index word) begins named = refl
step_read (TryConsume index word) begins named = refl
step_read (Consume index) begins named = refl
step_read (Remove index) begins named = refl
step_read (PairLoad index) begins named = refl
step_read (Name index ticket) begins named = refl
step_read (Tell index ticket) begins named = refl
step_read (Clear index) begins named = refl
step_read (CellLoad cell) begins named = read_read named
step_read (CellExchange cell seen new) begins named = refl
step_read (LockTry lock task) begins named = refl
step_read (LockStore lock) begins named = refl
step_read Clock true named = refl
step_read Clock false named = refl

pub kept_named : (steps : List Stepped) → name_of (kept_by steps) ≡ named_at steps
kept_named [] = refl
kept_named (last ∷ earlier) = step_named last.step last.begins (named_at earlier)

pub kept_read : (steps : List Stepped) → read_of (kept_by steps) ≡ read_at steps
kept_read [] = refl
kept_read (last ∷ earlier) = step_read last.step last.begins (named_at earlier)
