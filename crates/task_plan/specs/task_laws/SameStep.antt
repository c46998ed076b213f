-- Two records are of the same step of the same task, whatever each was answered.
use Rattle.std.specs.Prelude.{◌≡◌}
use Rattle.slot_table.specs.Answer.{Answers}
use Rattle.slot_table.specs.declared.records.Record.{Record}

-- the other is of the same step of the same task, and its answer is one that the step may have
pub record IsAlike (first other : Record) : Type 0 where
  pub task : other.task ≡ first.task
  pub step : other.step ≡ first.step
  pub answers : Answers first.step other.answer
