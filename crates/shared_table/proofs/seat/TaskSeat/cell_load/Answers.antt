use Rattle.std.proofs.Common.{refl, ap}
use Rattle.slot_table.specs.declared.step.Step.TheVariants.{CellLoad}
use Rattle.shared_table.specs.Row.{cells_from}
use Rattle.shared_table.proofs.Calls.{asks_as, counted, made}
use Rattle.shared_table.proofs.Steps.{loads_cell}
use Rattle.shared_table.proofs.seat.TaskSeat.cell_load.Goals as goal

pub load-requires : goal.load-requires
load-requires c =
    let at = counted c.self.inside c.args.self.now c.args.words.now c.self.view_is
    c.self.invariant c.requires.table _ c.requires.may cells_from c.args.cell c.cell_at-place.result c.cell_at-place.ensures in
    asks_as c.self.inside c.args.self.now c.args.words.now c.self.view_is
    c.self.invariant c.requires.table _ c.requires.may _ (ap CellLoad at)
    cells_from c.args.cell c.cell_at-place.result c.cell_at-place.ensures _ _
    (λ given is names. loads_cell given c.args.cell c.cell_at-place.result is names)

pub returns-clause-made : goal.returns-clause-made
returns-clause-made c =
    let at = counted c.self.inside c.args.self.now c.args.words.now c.self.view_is
    c.self.invariant c.requires.table _ c.requires.may cells_from c.args.cell c.cell_at-place.result c.cell_at-place.ensures in
    made c.self.inside c.args.self.now c.args.words.now c.self.view_is
    c.self.invariant c.requires.table _ c.requires.may _ (ap CellLoad at)
    c.self.inside.is_open c.load.new.seat _ _ refl c.load.ensures.told.0 c.load.ensures.told.2
