-- So far the tasks were asked as the entries before this one say, and nobody is stuck.
use Rattle.std.proofs.Common.{◌≡◌, take}
use Rattle.prepared_program.specs.step_schedule.Order.{asked_by}
use Rattle.prepared_program.specs.step_schedule.Schedule.{entries_of}
use Rattle.litmus_step.proofs.world.World.entries.Given as goal
use Rattle.litmus_step.specs.Steps.{room_in, tasks_in}
use Rattle.litmus_step.specs.Turns.{Asked, NobodyIsStuck}

abbrev pub invariant-loop-entry : goal.invariant-loop-entry
invariant-loop-entry l = record {
  asked : Asked l.fn.self (asked_by (take l.entry-index (entries_of l.schedule))) l.self;
  nobody : NobodyIsStuck l.self;
  tasks : tasks_in l.self ≡ tasks_in l.fn.self;
  sites : l.self.sites ≡ l.fn.self.sites;
  room : room_in l.self ≡ room_in l.fn.self;
}
