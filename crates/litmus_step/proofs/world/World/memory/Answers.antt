-- By the law on cells.
use Rattle.std.proofs.Common.{[], refl}
use Rattle.litmus_step.proofs.world.World.memory.Goals as goal

pub returns-clause-content : goal.returns-clause-content
returns-clause-content c = λ run records leads.
    let holds = c.law_cells_hold_the_content.ensures.bytes run records leads.list [] records refl in
    rw (c.cells.ensures, leads.leaves) holds
