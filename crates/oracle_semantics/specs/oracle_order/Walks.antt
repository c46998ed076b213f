-- How far a task has come whose records are read by its text.
use Rattle.std.specs.Prelude.{◌≡◌}
use Rattle.litmus_semantics.specs.Task.{Progress}
use Rattle.oracle_semantics.specs.declared.oracle_order.walk.Given.{Given}
use Rattle.oracle_semantics.specs.declared.oracle_order.walk.Walk.{Walk}
use Rattle.program_order.specs.Standing.{Setting, Standing}
use Rattle.program_order.specs.WrittenOrder.{Steps}

-- the task of the setting, and its variables, are those given
abbrev pub IsOf : Setting → Given → Type 0
IsOf s given = (s.text.task ≡ given.task) × (s.text.variables ≡ given.variables.now)

-- what the task did, and its registers
abbrev pub stands : Walk → Progress
stands walk = record { did = walk.did.items; registers = walk.registers.items }

-- the records between two places are these steps, wherever the task stands that did what it did there
abbrev pub Goes : Steps → Walk → Walk → Type 0
Goes Part before after =
    (standing : Standing) → standing.progress ≡ stands before
    → (end : Standing) × Part standing before.left.items end after.left.items × (end.progress ≡ stands after)
