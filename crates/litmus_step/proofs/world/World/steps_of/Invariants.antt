-- So far the task was asked so often, and nobody is stuck.
use Rattle.std.proofs.Common.{◌≡◌, replicate}
use Rattle.litmus_step.proofs.world.World.steps_of.Given as goal
use Rattle.litmus_step.specs.Steps.{room_in, tasks_in}
use Rattle.litmus_step.specs.Turns.{Asked, NobodyIsStuck}

abbrev pub invariant-loop-made : goal.invariant-loop-made
invariant-loop-made l = record {
  asked : Asked l.fn.self (replicate l._made l.task) l.self;
  nobody : NobodyIsStuck l.self;
  tasks : tasks_in l.self ≡ tasks_in l.fn.self;
  sites : l.self.sites ≡ l.fn.self.sites;
  room : room_in l.self ≡ room_in l.fn.self;
}
