use Rattle.std.proofs.Common.{refl, ap}
use Rattle.slot_table.specs.declared.step.Answer.TheVariants as answers
use Rattle.slot_table.specs.declared.step.Step.TheVariants.{LockStore}
use Rattle.shared_table.specs.Row.{locks_from}
use Rattle.shared_table.proofs.Calls.{asks_as, counted, made}
use Rattle.shared_table.proofs.Steps.{stores_lock}
use Rattle.shared_table.proofs.seat.TaskSeat.lock_store.Goals as goal

pub store-requires : goal.store-requires
store-requires c =
    let at = counted c.self.inside c.args.self.now c.args.words.now c.self.view_is
    c.self.invariant c.requires.table _ c.requires.may locks_from c.args.lock c.lock_at-place.result c.lock_at-place.ensures in
    asks_as c.self.inside c.args.self.now c.args.words.now c.self.view_is
    c.self.invariant c.requires.table _ c.requires.may _ (ap LockStore at)
    locks_from c.args.lock c.lock_at-place.result c.lock_at-place.ensures _ _
    (λ given is names. stores_lock given c.args.lock c.lock_at-place.result is names)

pub returns-clause-made : goal.returns-clause-made
returns-clause-made c =
    let at = counted c.self.inside c.args.self.now c.args.words.now c.self.view_is
    c.self.invariant c.requires.table _ c.requires.may locks_from c.args.lock c.lock_at-place.result c.lock_at-place.ensures in
    made c.self.inside c.args.self.now c.args.words.now c.self.view_is
    c.self.invariant c.requires.table _ c.requires.may _ (ap LockStore at)
    c.self.inside.is_open c.store.new.seat answers.Done answers.Done refl c.store.ensures.told.0 c.store.ensures.told.2
