-- All that was due so far was over at once, and each small step leaves less of the text.
use Rattle.std.proofs.Common.{◌≡◌, List}
use Rattle.slot_table.specs.declared.records.Record.{Record}
use Rattle.task_run.specs.Due.{EndsAtOnce}
use Rattle.task_run.specs.Room.{room_of}
use Rattle.task_run.specs.Stands.{StandsBy}
use Rattle.task_run.proofs.machine.Machine.advance.Given as goal
use Rattle.task_plan.specs.Cost.{walk_cost}
use Rattle.task_plan.specs.Left.{WalkLeft}
use Rattle.program_order.specs.Standing.{Setting, Standing}

abbrev pub invariant-loop-next : goal.invariant-loop-next
invariant-loop-next l = record {
  stands : (s : Setting) (before : List Record → Standing) → StandsBy s before l.fn.self → EndsAtOnce s (WalkLeft s l.fn.self.walk) before l.self;
  room : room_of l.self ≡ room_of l.fn.self;
}

abbrev pub decreases-loop-next : goal.decreases-loop-next
decreases-loop-next l = walk_cost l.self.walk
