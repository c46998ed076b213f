use Rattle.std.proofs.Common.{ap, sym, ◌∙◌}
use Rattle.shared_table.specs.Row.{clock_at}
use Rattle.shared_table.proofs.Calls.{asks}
use Rattle.shared_table.proofs.Steps.{ticks}
use Rattle.shared_table.proofs.seat.TaskSeat.tick.Goals as goal

pub fetch_add-requires : goal.fetch_add-requires
fetch_add-requires c =
    asks c.self.inside c.args.self.now c.args.words.now c.self.view_is
    c.self.invariant c.requires.table _ c.requires.may c.clock_at-place.result _ _
    (λ given is names. ticks given c.clock_at-place.result
    (c.clock_at-place.ensures ∙ ap clock_at (sym is)))
