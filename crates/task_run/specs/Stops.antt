-- Why a task's machine stops.
use Rattle.std.specs.Prelude.{◌≡◌, ◌<◌, List, [], ◌∷◌, length, true}
use Rattle.access_types.specs.Access.{Access, IsInLimits}
use Rattle.setup_access.specs.declared.begun.Begun.{Begun}
use Rattle.slot_table.specs.declared.records.Record.{Record}
use Rattle.task_run.specs.Stands.{Stands}
use Rattle.task_run.specs.declared.machine.Machine.{Machine}
use Rattle.program_order.specs.text_bounds.Passes.{PassesALimit}
use Rattle.program_order.specs.text_bounds.Scopes.{in_force, is_scoped}
use Rattle.program_order.specs.Standing.{Setting, Standing}
use Rattle.program_order.specs.WrittenOrder.{Steps}

-- each of these is a scoped assertion
abbrev pub AreScoped : List Begun → Type 0
AreScoped [] = Unit {0}
AreScoped (scope ∷ scopes) = (is_scoped scope.access.kind ≡ true) × AreScoped scopes

-- as many scoped assertions are in force where a task stands as what it did leaves in force, and each of them is one
pub record ScopesAreTold (before : Standing) : Type 0 where
  pub count : length before.scopes ≡ in_force before.progress.did
  pub scoped : AreScoped before.scopes

-- an access can begin: it is within the limits of accesses, and has bytes
abbrev pub CanBegin : Access → Type 0
CanBegin a = IsInLimits a × (0 < a.size)

-- whatever records complete this part from here to the end of the text, the task passes a limit by then
abbrev pub PassesWith : Setting → Steps → Standing → Type 0
PassesWith s Left before =
    ScopesAreTold before → (later : List Record) (end : Standing) → Left before later end [] → PassesALimit s end

-- so it is wherever the machine stands
abbrev pub Stops : Setting → Steps → Machine → Type 0
Stops s Left machine = (before : Standing) → Stands s before machine → PassesWith s Left before
