-- Reports were turned on again so often as the loop went round.
use Rattle.std.proofs.Common.{◌≡◌, List}
use Rattle.slot_table.specs.declared.records.Record.{Record}
use Rattle.task_run.specs.Part.{enabled}
use Rattle.task_run.specs.Room.{room_of}
use Rattle.task_run.specs.Stands.{Stands}
use Rattle.task_run.proofs.machine.Machine.enable.Given as goal
use Rattle.program_order.specs.Standing.{Setting, Standing}

abbrev pub invariant-loop : goal.invariant-loop
invariant-loop l = record {
  stands : (s : Setting) (before : Standing) (later : List Record) → Stands s before l.fn.self → Stands s (enabled l.counter before later) l.self;
  walk : l.self.walk ≡ l.fn.self.walk;
  lists : room_of l.self ≡ room_of l.fn.self;
}
