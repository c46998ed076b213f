use Rattle.shared_table.proofs.Calls.{asks}
use Rattle.shared_table.proofs.Steps.{inserts}
use Rattle.shared_table.proofs.seat.TaskSeat.insert.Goals as goal

pub compare_exchange-found-requires : goal.compare_exchange-found-requires
compare_exchange-found-requires c =
    asks c.self.inside c.args.self.now c.args.words.now c.self.view_is
    c.self.invariant c.requires.table _ c.requires.may c.args.index _ _
    (λ given is names. inserts given c.args.index c.args.word names)
