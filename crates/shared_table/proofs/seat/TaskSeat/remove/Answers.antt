use Rattle.shared_table.proofs.Calls.{asks}
use Rattle.shared_table.proofs.Steps.{removes}
use Rattle.shared_table.proofs.seat.TaskSeat.remove.Goals as goal

pub store-requires : goal.store-requires
store-requires c =
    asks c.self.inside c.args.self.now c.args.words.now c.self.view_is
    c.self.invariant c.requires.table _ c.requires.may c.args.index _ _
    (λ given is names. removes given c.args.index names)
