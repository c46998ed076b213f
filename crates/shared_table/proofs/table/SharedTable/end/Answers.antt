use Rattle.std.proofs.Common.{◌≡◌, sym, ap, ◌∙◌, arith, Vec, Global}
use Rattle.std.specs.Slots.{slots_items}
use Rattle.shared_table.specs.Given.{Given}
use Rattle.shared_table.specs.Row.{cells_from, section}
use Rattle.shared_table.specs.Seats.{Opened}
use Rattle.shared_table.specs.declared.seat.TaskSeat.{TaskSeat}
use Rattle.shared_table.proofs.Gathering.{ended}
use Rattle.shared_table.proofs.table.SharedTable.end.Goals as goal

pub invariant_of-result : goal.invariant_of-result
invariant_of-result c =
    let final = c.close_with-closed.ensures.values.2 in
    let words = slots_items c.close_with-closed.result.words in
    let given : c.self.inside.opening ≡ c.args.self.given = ap (λ (o : Opened). o.given) c.self.view_is in
    let from = c.cells_from-from.ensures ∙ ap cells_from (sym given) in
    let tasks = ap (λ (g : Given). g.tasks) given in
    ended c.self.inside.row.shared.key c.self.inside.opening c.self.invariant.0 c.join_all-whole.result.id c.join_all-whole.result.me.0 words
    c.read_cells-cells.result.items c.args.seats.items c.of-seen.result.value.items c.join_all-whole.ensures.held
    (ap (λ (seats : Vec TaskSeat Global). seats.items) c.of-seen.ensures)
    (c.read_cells-cells.ensures ∙ (λ i. section (from i) (c.self.invariant.4 i) words))
    (λ task below. c.requires.everyone task (omega arith)) c.requires.finished final.0 final.1.0 final.1.1 final.2
