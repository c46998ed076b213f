use Rattle.shared_table.proofs.Calls.{asks}
use Rattle.shared_table.proofs.Steps.{loads}
use Rattle.shared_table.proofs.seat.TaskSeat.load.Goals as goal

pub load-requires : goal.load-requires
load-requires c =
    asks c.self.inside c.args.self.now c.args.words.now c.self.view_is
    c.self.invariant c.requires.table _ c.requires.may c.args.index _ _
    (λ given is names. loads given c.args.index names)
