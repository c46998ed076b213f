-- A task's machine between two parts of its text.
use Rattle.std.specs.Prelude.{◌≡◌, ◌↔◌, List, [], ◌∷◌, Option, length}
use Rattle.std.specs.Arc.{arc_value}
use Rattle.access_types.specs.declared.history.Happening.TheVariants as happenings
use Rattle.access_types.specs.declared.history.Mark.{Mark}
use Rattle.prepared_program.specs.program_layout.Lays.{Lays}
use Rattle.setup_access.specs.Leads as checks
use Rattle.setup_access.specs.Shown.{context_of}
use Rattle.setup_access.specs.declared.begun.Begun.{Begun}
use Rattle.slot_table.specs.declared.records.Record.{Record}
use Rattle.task_context.specs.History.{LeadsTo}
use Rattle.task_plan.specs.Keeps.{Keeps}
use Rattle.task_run.specs.declared.machine.Machine.{Machine}
use Rattle.program_order.specs.Standing.{Setting, Standing, checks_of, doing, moments}
use Rattle.program_order.specs.WrittenOrder.{Steps}

-- the machine is of this task, and goes by the same
pub record IsOf (s : Setting) (machine : Machine) : Type 0 where
  pub task : machine.task ≡ s.text.task
  pub rules : machine.rules ≡ s.rules
  pub variables : machine.variables.now ≡ s.text.variables
  pub layout : Lays s.text.places s.text.variables (arc_value machine.layout)
  pub sites : arc_value machine.sites ≡ s.sites

-- what it keeps, its context and its number of scoped assertions in force are those of where the task
-- stands
pub record Counts (s : Setting) (before : Standing) (machine : Machine) : Type 0 where
  pub keeps : Keeps (length s.text.variables) before machine.progress
  pub context : LeadsTo s.rules.plain_writes_atomic s.text.task (moments s before)
      (context_of machine.checker)
  pub in_force : machine.in_force ≡ length before.scopes

-- its checks rest there
abbrev pub RestsAt : Setting → Standing → Machine → Type 0
RestsAt s before machine =
    (last : Option Begun) × checks.Rests (checks_of s) before.scopes before.asked last machine.checker

-- the task stands here, before a part of its text
pub record Stands (s : Setting) (before : Standing) (machine : Machine) : Type 0 where
  pub of : IsOf s machine
  pub counts : Counts s before machine
  pub rests : RestsAt s before machine

-- wherever the task stood, it stands after this mark now
abbrev pub AfterMark : Mark → Machine → Machine → Type 0
AfterMark mark old new = (s : Setting) (before : Standing) (later : List Record) → Stands s before old
    → Stands s (doing before later (happenings.Mark mark ∷ [])) new

-- The same by the records that are to come: a standing counts these, and all else of it is the same
-- whichever they are.
abbrev pub StandsBy : Setting → (List Record → Standing) → Machine → Type 0
StandsBy s now machine = (later : List Record) → Stands s (now later) machine

-- to the end of the text, one part from one standing on has the same steps as another from another on
abbrev pub SameToEnd : Steps → (List Record → Standing) → Steps → (List Record → Standing) → Type 0
SameToEnd P before Q now = (later : List Record) (end : Standing)
    → P (before later) later end [] ↔ Q (now later) later end []
