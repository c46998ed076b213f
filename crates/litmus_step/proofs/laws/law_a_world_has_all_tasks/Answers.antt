-- It has a machine for each.
use Rattle.std.proofs.Common.{◌∙◌}
use Rattle.litmus_step.proofs.laws.law_a_world_has_all_tasks.Goals as goal

pub returns : goal.returns
returns c = λ run records world leads. world.tasks.ok.0 ∙ leads.tasks.all
