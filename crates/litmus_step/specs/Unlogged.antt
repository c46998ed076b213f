-- Steps of which a log says nothing, unless an outcome falls at them.
use Rattle.std.specs.Prelude.{Bool, false, true}
use Rattle.slot_table.specs.declared.step.Step.{Step}
use Rattle.slot_table.specs.declared.step.Step.TheVariants as steps

-- a load, a step on a cell, and a step on a lock: such a step begins and ends no access, and leaves watchpoints and pairs as they are
abbrev pub is_unlogged : Step → Bool
is_unlogged (steps.Load index) = true
is_unlogged (steps.Insert index word) = false
is_unlogged (steps.TryConsume index word) = false
is_unlogged (steps.Consume index) = false
is_unlogged (steps.Remove index) = false
is_unlogged (steps.PairLoad index) = true
is_unlogged (steps.Name index half) = false
is_unlogged (steps.Tell index half) = false
is_unlogged (steps.Clear index) = false
is_unlogged (steps.CellLoad cell) = true
is_unlogged (steps.CellExchange cell seen new) = true
is_unlogged (steps.LockTry lock place) = true
is_unlogged (steps.LockStore lock) = true
is_unlogged steps.Clock = false
