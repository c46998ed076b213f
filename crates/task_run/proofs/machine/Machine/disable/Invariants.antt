-- Reports were turned off so often as the loop went round, and the count has room for what is left.
use Rattle.std.proofs.Common.{◌≡◌, ◌+◌, ◌-◌, ◌^◌, ◌≤◌, ◌<◌, List}
use Rattle.setup_access.specs.Shown.{context_of}
use Rattle.slot_table.specs.declared.records.Record.{Record}
use Rattle.task_run.specs.Part.{disabled}
use Rattle.task_run.specs.Room.{room_of}
use Rattle.task_run.specs.Stands.{Stands}
use Rattle.task_run.proofs.machine.Machine.disable.Given as goal
use Rattle.program_order.specs.Standing.{Setting, Standing}

abbrev pub invariant-loop : goal.invariant-loop
invariant-loop l = record {
  stands : (s : Setting) (before : Standing) (later : List Record) → Stands s before l.fn.self → Stands s (disabled l.counter before later) l.self;
  walk : l.self.walk ≡ l.fn.self.walk;
  lists : room_of l.self ≡ room_of l.fn.self;
  room : l.counter < l.count → (context_of l.self.checker).disable_count + (l.count - l.counter) ≤ 2 ^ 32;
}
