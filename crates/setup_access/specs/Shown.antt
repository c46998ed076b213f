-- What is seen of a checker from outside, and how a context decides what an access counts as.
use Rattle.std.specs.Prelude.{◌↔◌, ℕ, List, [], ◌∷◌, IsTrue, Option, None, Some, vec_capacity}
use Rattle.access_types.specs.History.{History}
use Rattle.access_types.specs.Marked.{CountsAfter, EndsRaised, is_disable, is_enable, marks_of}
use Rattle.task_context.specs.Context.{Context}
use Rattle.task_context.specs.History.{LeadsTo}
use Rattle.setup_access.specs.Setting.{Setting}
use Rattle.setup_access.specs.declared.begun.Begun.{Begun}
use Rattle.setup_access.specs.declared.checker.Checker.{Checker}
use Rattle.setup_access.specs.declared.outcome.Outcome.{Outcome}
use Rattle.setup_access.specs.declared.stage.CheckStage.{CheckStage}
use Rattle.setup_access.specs.declared.stage.CheckStage.TheVariants as stages
use Rattle.setup_access.specs.declared.stage.Role.{Role}
use Rattle.setup_access.specs.declared.stage.Role.TheVariants as roles

-- the context of a checker's task
abbrev pub context_of : Checker → Context
context_of checker = checker.context

-- what came of its check so far
abbrev pub outcomes_of : Checker → List Outcome
outcomes_of checker = checker.outcomes

-- its scoped assertions in force, the oldest first
abbrev pub scoped_of : Checker → List Begun
scoped_of checker = checker.scopes.items

-- the last access, unless the stamp of its begin is to be drawn
abbrev pub begun_at : CheckStage → Option Begun → Option Begun
begun_at stages.Rest last = last
begun_at (stages.Begin begun) last = None
begun_at (stages.Check role begun pass) last = last
begun_at (stages.End scope) last = last

-- the access that it checks or checked last, once it has begun
abbrev pub begun_of : Checker → Option Begun
begun_of checker = begun_at checker.stage checker.last

-- the scoped assertion whose check this is, if that is its last one
abbrev pub closing_check : Role → Begun → Option Begun
closing_check roles.Access begun = None
closing_check (roles.Scope number) begun = None
closing_check roles.Closing begun = Some begun

-- the scoped assertion whose scope closes at a stage
abbrev pub closing_at : CheckStage → Option Begun
closing_at stages.Rest = None
closing_at (stages.Begin begun) = None
closing_at (stages.Check role begun pass) = closing_check role begun
closing_at (stages.End scope) = Some scope

-- the scoped assertion whose scope the checker closes
abbrev pub closing_of : Checker → Option Begun
closing_of checker = closing_at checker.stage

-- a task with this context is silenced, or not
abbrev pub IsSilenced : Setting → Context → Type 0 → Type 0
IsSilenced s context Says =
    (moments : History) → LeadsTo s.rules.plain_writes_atomic s.task moments context → Says ↔ EndsRaised is_disable is_enable (marks_of s.task moments)

-- what an access counts as is decided by the context of its task when it begins
pub record IsDecided (s : Setting) (context : Context) (begun : Begun) : Type 0 where
  pub marked : (moments : History) → LeadsTo s.rules.plain_writes_atomic s.task moments context
      → IsTrue begun.marked ↔ CountsAfter s.rules.plain_writes_atomic begun.access moments
  pub silenced : IsSilenced s context (IsTrue begun.silenced)

-- what a checker's lists can hold before they take memory
abbrev pub room_of : Checker → List ℕ
room_of checker = vec_capacity checker.setting.cells ∷ vec_capacity checker.scopes ∷ []
