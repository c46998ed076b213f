-- How what is due in a text begins.
use Rattle.std.specs.Prelude.{ℕ, List, MatchOption, Option}
use Rattle.litmus_semantics.specs.Meaning.{Chooses}
use Rattle.litmus_syntax.specs.Tree.{Expression, Statement}
use Rattle.slot_table.specs.declared.records.Record.{Record}
use Rattle.task_run.specs.Agrees.{Begins}
use Rattle.task_run.specs.Stands.{SameToEnd, StandsBy}
use Rattle.task_run.specs.Position.{ComputesBy}
use Rattle.task_run.specs.declared.machine.Machine.{Machine}
use Rattle.task_run.specs.declared.stage.TaskStage.{TaskStage}
use Rattle.task_plan.specs.Left.{BodyLeft, Then, WalkLeft}
use Rattle.task_plan.specs.declared.walk.Walk.{Walk}
use Rattle.program_order.specs.Standing.{Setting, Standing}
use Rattle.program_order.specs.WrittenOrder.{Steps, StepsOf, StepsOfExpression}

-- a statement, and then what is left of the text
abbrev pub StatementDue : Setting → Statement → ℕ → Walk → Steps
StatementDue s statement site walk before records after rest =
    Then (StepsOf s site statement) (WalkLeft s walk) before records after rest

-- a condition that decides between two blocks, and then what is left
abbrev pub ConditionDue : Setting → Expression → ℕ → Walk → Steps
ConditionDue s condition site walk before records after rest =
    (value : ℕ) × (between : Standing) × (later : List Record)
    × StepsOfExpression s site condition before records value between later
    × Chooses value (BodyLeft s walk between later after rest) (WalkLeft s walk between later after rest)

-- what was to be made is over, without a step: what is left has the same steps to the end
abbrev pub EndsAtOnce : Setting → Steps → (List Record → Standing) → Machine → Type 0
EndsAtOnce s Left before machine =
    (now : List Record → Standing) × StandsBy s now machine
    × SameToEnd Left before (WalkLeft s machine.walk) now × ComputesBy before now

-- from wherever the machine stood, what is to be made begins in this stage, or is over where there is
-- none
abbrev pub PartBegins : Setting → Steps → Machine → Machine → Option TaskStage → Type 0
PartBegins s Left old new stage =
    (before : List Record → Standing) → StandsBy s before old
    → MatchOption stage (EndsAtOnce s Left before new) (Begins s Left before new)
