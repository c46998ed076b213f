-- The part of a text that is an access of a statement.
use Rattle.std.specs.Prelude.{◌≡◌, ℕ, Bool}
use Rattle.litmus_syntax.specs.Tree.{Load}
use Rattle.litmus_syntax.specs.declared.statement.Call.{Call}
use Rattle.litmus_syntax.specs.declared.statement.Call.TheVariants.{Check}
use Rattle.task_plan.specs.Follow.{Taker}
use Rattle.task_plan.specs.Plans.{load_plan, planned_access}
use Rattle.task_plan.specs.Views.{Plan}
use Rattle.task_run.specs.Part.{Part, PartLeft, before_access, makes}
use Rattle.task_plan.specs.declared.walk.Walk.{Walk}
use Rattle.program_order.specs.Standing.{Setting, Standing}
use Rattle.program_order.specs.WrittenOrder.{Steps}

-- the part of a text that makes the access that is planned, where the task stands so
abbrev pub planned : Setting → Standing → Plan → ℕ → Part
planned s before plan site = makes (planned_access s before plan site) plan.operation plan.follow

-- what is planned at a site, from where its statement begins, and then what is left of the text: first
-- reports are turned off so often as the statement is inside data_race( )
abbrev pub PlanLeft : Setting → Walk → ℕ → Plan → Steps
PlanLeft s walk site plan before records after rest =
    let begun = before_access plan.follow before records in
    PartLeft s (planned s begun plan site) walk begun records after rest

-- a load, whose value is taken so, and then what is left of the text
abbrev pub LoadLeft : Setting → Walk → ℕ → Load → Taker → Steps
LoadLeft s walk site load taker before records after rest =
    PlanLeft s walk site (load_plan s.text before.progress.registers load taker) before records after rest

-- the call is a check of no byte, which makes no access
abbrev pub ChecksNoByte : Call → Type 0
ChecksNoByte call = (write : Bool) × (variable : ℕ) × (call ≡ Check write variable 0)
