-- So far the tasks took turns so often, and nobody is stuck.
use Rattle.std.proofs.Common.{◌≡◌, ◌-◌, ◌^◌}
use Rattle.prepared_program.specs.step_schedule.Order.{in_rounds}
use Rattle.litmus_step.proofs.world.World.rounds.Given as goal
use Rattle.litmus_step.specs.Steps.{room_in, tasks_in}
use Rattle.litmus_step.specs.Turns.{Asked, LeadsFurther, NobodyIsStuck}

abbrev pub invariant-loop-round : goal.invariant-loop-round
invariant-loop-round l = record {
  asked : Asked l.fn.self (in_rounds (tasks_in l.fn.self) l._round) l.self;
  nobody : NobodyIsStuck l.self;
  further : LeadsFurther l._round l.fn.self l.self;
  tasks : tasks_in l.self ≡ tasks_in l.fn.self;
  sites : l.self.sites ≡ l.fn.self.sites;
  room : room_in l.self ≡ room_in l.fn.self;
}

abbrev pub decreases-loop-round : goal.decreases-loop-round
decreases-loop-round l = 2 ^ 128 - l._round
