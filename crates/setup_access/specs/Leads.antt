-- The invariant of a checker: the records so far lead to it, and it has left what completes them.
use Rattle.std.specs.Prelude.{◌≡◌, ◌↔◌, ◌++◌, ◌⊎◌, ℕ, List, [], ◌∷◌, Option, None, Some}
use Rattle.access_types.specs.Sites.{AccessMap}
use Rattle.slot_table.specs.Answer.{Answers}
use Rattle.slot_table.specs.declared.records.Record.{Record}
use Rattle.slot_table.specs.declared.step.Step.{Step}
use Rattle.slot_table.specs.declared.step.Step.TheVariants.{Clock}
use Rattle.setup_access.specs.Check.{Fallen, Passes}
use Rattle.setup_access.specs.Checker.{Does, Doing, StageLeft, StandsAt, last_of}
use Rattle.setup_access.specs.Fallen.{followed, outcomes_in}
use Rattle.setup_access.specs.FallsAt.{AllFallIn}
use Rattle.setup_access.specs.Kept.{setting_with}
use Rattle.setup_access.specs.OwnAccesses.{AreOwn}
use Rattle.setup_access.specs.PassLeft.{Samples, pass_step}
use Rattle.setup_access.specs.Setting.{Setting}
use Rattle.setup_access.specs.Waiting.{capped, stage_wait}
use Rattle.setup_access.specs.Waits.{IsStuckBy, wait_after}
use Rattle.setup_access.specs.declared.begun.Begun.{Begun}
use Rattle.setup_access.specs.declared.checker.Checker.{Checker}
use Rattle.setup_access.specs.declared.stage.CheckStage.{CheckStage}
use Rattle.setup_access.specs.declared.stage.CheckStage.TheVariants as stages

-- the step that a stage makes next
abbrev pub stage_step : Setting → CheckStage → Option Step
stage_step s stages.Rest = None
stage_step s (stages.Begin begun) = Some Clock
stage_step s (stages.Check role begun pass) = Some (pass_step s begun pass)
stage_step s (stages.End scope) = Some Clock

-- the checker is before this step
abbrev pub Says : Checker → Step → Type 0
Says checker step = (sites : AccessMap) → stage_step (setting_with checker.setting sites) checker.stage ≡ Some step

-- a checker of this setting that is at rest: these scoped assertions are in force, the oldest first, its sampler has
-- been asked so many times, and this access may be put in force too
pub record Rests (s : Setting) (scopes : List Begun) (asked : ℕ) (last : Option Begun) (checker : Checker) : Type 0 where
  pub setting : setting_with checker.setting s.sites ≡ s
  pub in_force : checker.scopes.items ≡ scopes
  pub own : AreOwn s scopes
  pub samples : Samples s asked checker.sampler
  pub may_open : checker.last ≡ last
  pub stage : checker.stage ≡ stages.Rest

-- what is done leads, by these records so far, to the checker: whatever completes the records completes what the
-- checker has left, after the outcomes that have fallen, which it has; it has counted the failed tries of their last
-- wait; and it knows whether its access has begun, and which scope it closes
pub record Leads (s : Setting) (scopes : List Begun) (doing : Doing) (asked : ℕ) (records : List Record) (checker : Checker) : Type 0 where
  pub setting : setting_with checker.setting s.sites ≡ s
  pub in_force : checker.scopes.items ≡ scopes
  pub own : AreOwn s scopes
  pub last : checker.last ≡ last_of doing
  pub stands : StandsAt doing records checker.stage
  pub now : ℕ
  pub samples : Samples s now checker.sampler
  pub waits : stage_wait checker.stage ≡ capped (wait_after records)
  pub fallen : List Fallen
  pub outcomes : checker.outcomes ≡ outcomes_in fallen
  pub falls : AllFallIn s records fallen
  pub left : (later : List Record) (passes : Passes) → Does s scopes doing asked (records ++ later) passes
      ↔ ((more : Passes) × StageLeft s scopes checker.stage now later more × (passes ≡ record { outcomes = followed later fallen ++ more.outcomes; asked = more.asked }))

-- the records go on with this step of the task, and whatever answer it may have
abbrev pub GoOn : ℕ → Step → List Record → Type 0
GoOn task step [] = ⊥
GoOn task step (first ∷ later) = (first.task ≡ task) × (first.step ≡ step) × Answers step first.answer

-- whatever completes the records so far goes on with this step
abbrev pub OnlyStep : Setting → List Begun → Doing → ℕ → List Record → Step → Type 0
OnlyStep s scopes doing asked records step = (later : List Record) (passes : Passes) → Does s scopes doing asked (records ++ later) passes → GoOn s.task step later

-- the records are all of what is done
abbrev pub IsDone : Setting → List Begun → Doing → ℕ → List Record → Type 0
IsDone s scopes doing asked records = (passes : Passes) × Does s scopes doing asked records passes

-- no step follows on the records: they are all of what is done, or stuck
abbrev pub IsCheckOver : Setting → List Begun → Doing → ℕ → List Record → Type 0
IsCheckOver s scopes doing asked records = IsDone s scopes doing asked records ⊎ IsStuckBy s.rules.turns records

-- the records are complete, nothing goes on with them, and the checker rests with their outcomes
pub record IsComplete (s : Setting) (scopes : List Begun) (doing : Doing) (asked : ℕ) (records : List Record) (checker : Checker) : Type 0 where
  pub now : ℕ
  pub fallen : List Fallen
  pub outcomes : checker.outcomes ≡ outcomes_in fallen
  pub does : Does s scopes doing asked records (record { outcomes = fallen; asked = now })
  pub ends : (later : List Record) (passes : Passes) → Does s scopes doing asked (records ++ later) passes → later ≡ []
  pub rests : Rests s scopes now (last_of doing) checker
