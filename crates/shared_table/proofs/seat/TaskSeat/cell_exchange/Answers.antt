use Rattle.std.proofs.Common.{ℕ, ap, sym}
use Rattle.slot_table.specs.declared.step.Step.TheVariants.{CellExchange}
use Rattle.shared_table.specs.Row.{cells_from}
use Rattle.shared_table.proofs.Calls.{asks_as, counted, made}
use Rattle.shared_table.proofs.Steps.{exchanges_cell}
use Rattle.shared_table.proofs.seat.TaskSeat.cell_exchange.Goals as goal

pub compare_exchange-found-requires : goal.compare_exchange-found-requires
compare_exchange-found-requires c =
    let at = counted c.self.inside c.args.self.now c.args.words.now c.self.view_is
    c.self.invariant c.requires.table _ c.requires.may cells_from c.args.cell c.cell_at-place.result c.cell_at-place.ensures in
    asks_as c.self.inside c.args.self.now c.args.words.now c.self.view_is
    c.self.invariant c.requires.table _ c.requires.may _ (ap (λ (k : ℕ). CellExchange k c.args.expected c.args.new) at)
    cells_from c.args.cell c.cell_at-place.result c.cell_at-place.ensures _ _
    (λ given is names. exchanges_cell given c.args.cell c.cell_at-place.result is c.args.expected c.args.new names)

pub returns-clause-made : goal.returns-clause-made
returns-clause-made c =
    let at = counted c.self.inside c.args.self.now c.args.words.now c.self.view_is
    c.self.invariant c.requires.table _ c.requires.may cells_from c.args.cell c.cell_at-place.result c.cell_at-place.ensures in
    made c.self.inside c.args.self.now c.args.words.now c.self.view_is
    c.self.invariant c.requires.table _ c.requires.may _ (ap (λ (k : ℕ). CellExchange k c.args.expected c.args.new) at)
    c.self.inside.is_open c.compare_exchange-found.new.seat _ _ (sym c.exchanged.ensures.value) c.compare_exchange-found.ensures.told.0 c.compare_exchange-found.ensures.told.2
