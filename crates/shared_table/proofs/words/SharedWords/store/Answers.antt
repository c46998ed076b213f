-- What the row asks is what is asked here, of the row and the seat within.
use Rattle.std.proofs.Common.{arith, sym, subst}
use mathlib.Core.Option.{none}
use Rattle.atomic_table.specs.Table.{step}
use Rattle.atomic_table.specs.declared.shared.Seat.{Seat}
use Rattle.shared_table.specs.Seats.{Opened}
use Rattle.shared_table.specs.Touches.{MayTouch}
use Rattle.shared_table.specs.declared.view.View.{View}
use Rattle.shared_table.proofs.words.SharedWords.store.Goals as goal

pub store-requires : goal.store-requires
store-requires g c =
    let P : Opened × Seat (Unit {0}) View → Type 0 = λ p. MayTouch p.0 p.1 c.args.place (λ _. c.args.new)
    (λ _. g.M.Play.then (step p.0.id.slots c.args.place c.args.new 0 none) p.1.me c.args.new) in
    let may = subst P (λ i. (sym c.self.view_is i, sym c.seat.view_is i)) c.requires in
    (may.0, omega (arith, may.1, c.self.invariant.0), may.2)
