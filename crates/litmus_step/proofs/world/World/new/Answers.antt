-- By the world of the program that is made ready.
use Rattle.litmus_step.proofs.world.World.new.Goals as goal

pub returns-clause-leads : goal.returns-clause-leads
returns-clause-leads c = c.in_ok-world.ensures.leads c.args.settings.now c.in_ok-prepared.ensures.prepared
