-- So far each task before this one was asked once, and nobody is stuck. Where none goes on all these have ended.
use Rattle.std.proofs.Common.{◌≡◌, ◌<◌, ℕ, false, true}
use Rattle.std.specs.List.{range_with_len}
use Rattle.litmus_step.proofs.world.World.round.Given as goal
use Rattle.litmus_step.specs.Steps.{IsMachine, IsTaskOver, room_in, tasks_in}
use Rattle.litmus_step.specs.Turns.{Asked, LeadsFurther, NobodyIsStuck}
use Rattle.task_run.specs.declared.run.TaskRun.{TaskRun}

abbrev pub invariant-loop-task : goal.invariant-loop-task
invariant-loop-task l = record {
  asked : Asked l.fn.self (range_with_len 0 l.task) l.self;
  nobody : NobodyIsStuck l.self;
  ended : l.goes_on ≡ false → (task : ℕ) (machine : TaskRun) → task < l.task → IsMachine l.self task machine → IsTaskOver machine;
  further : l.goes_on ≡ true → LeadsFurther 1 l.fn.self l.self;
  no_less : LeadsFurther 0 l.fn.self l.self;
  tasks : tasks_in l.self ≡ tasks_in l.fn.self;
  sites : l.self.sites ≡ l.fn.self.sites;
  room : room_in l.self ≡ room_in l.fn.self;
}
