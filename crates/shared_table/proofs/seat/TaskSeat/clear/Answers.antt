use Rattle.std.proofs.Common.{true, refl, ap}
use Rattle.slot_table.specs.declared.step.Answer.TheVariants as answers
use Rattle.slot_table.specs.declared.step.Step.TheVariants.{Clear}
use Rattle.shared_table.specs.Row.{pairs_from}
use Rattle.shared_table.proofs.Calls.{asks_as, counted, made}
use Rattle.shared_table.proofs.Steps.{clears}
use Rattle.shared_table.proofs.seat.TaskSeat.clear.Goals as goal

pub store-requires : goal.store-requires
store-requires c =
    let at = counted c.self.inside c.args.self.now c.args.words.now c.self.view_is
    c.self.invariant c.requires.table _ c.requires.may pairs_from c.args.index c.pair_at-place.result c.pair_at-place.ensures in
    asks_as c.self.inside c.args.self.now c.args.words.now c.self.view_is
    c.self.invariant c.requires.table _ c.requires.may _ (ap Clear at)
    pairs_from c.args.index c.pair_at-place.result c.pair_at-place.ensures _ _
    (λ given is names. clears given c.args.index c.pair_at-place.result is names)

pub returns-clause-made : goal.returns-clause-made
returns-clause-made c =
    let at = counted c.self.inside c.args.self.now c.args.words.now c.self.view_is
    c.self.invariant c.requires.table _ c.requires.may pairs_from c.args.index c.pair_at-place.result c.pair_at-place.ensures in
    made c.self.inside c.args.self.now c.args.words.now c.self.view_is
    c.self.invariant c.requires.table _ c.requires.may _ (ap Clear at)
    true c.store.new.seat answers.Done answers.Done refl c.store.ensures.told.0 c.store.ensures.told.2
