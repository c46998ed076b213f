use Rattle.shared_table.proofs.Calls.{asks}
use Rattle.shared_table.proofs.Steps.{consumes}
use Rattle.shared_table.proofs.seat.TaskSeat.consume.Goals as goal

pub swap-found-requires : goal.swap-found-requires
swap-found-requires c =
    asks c.self.inside c.args.self.now c.args.words.now c.self.view_is
    c.self.invariant c.requires.table _ c.requires.may c.args.index _ _
    (λ given is names. consumes given c.args.index names)
