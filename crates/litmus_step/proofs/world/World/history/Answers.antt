-- By the law on worlds.
use Rattle.litmus_step.proofs.world.World.history.Goals as goal

pub returns : goal.returns
returns c = λ run records leads. c.law_worlds_tell_runs_of_the_program.ensures run records c.args.self.now leads
