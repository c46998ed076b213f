use Rattle.std.proofs.Common.{ℕ, refl, ap}
use Rattle.slot_table.specs.declared.step.Step.TheVariants.{LockTry}
use Rattle.shared_table.specs.Row.{locks_from}
use Rattle.shared_table.proofs.Calls.{asks_as, counted, made}
use Rattle.shared_table.proofs.Steps.{tries_lock}
use Rattle.std.proofs.Common.{◌+◌}
use Rattle.shared_table.proofs.Steps.{holder_of}
use Rattle.shared_table.proofs.seat.TaskSeat.lock_try.Goals as goal

pub compare_exchange-found-requires : goal.compare_exchange-found-requires
compare_exchange-found-requires c =
    let at = counted c.self.inside c.args.self.now c.args.words.now c.self.view_is
    c.self.invariant c.requires.table _ c.requires.may locks_from c.args.lock c.lock_at-place.result c.lock_at-place.ensures in
    asks_as c.self.inside c.args.self.now c.args.words.now c.self.view_is
    c.self.invariant c.requires.table _ c.requires.may _ (λ i. LockTry (at i) (holder_of c.args.task (1 + c.from-holder.result) (ap (λ (k : ℕ). 1 + k) c.from-holder.ensures) i))
    locks_from c.args.lock c.lock_at-place.result c.lock_at-place.ensures _ _
    (λ given is names. tries_lock given c.args.lock c.lock_at-place.result is c.args.task (1 + c.from-holder.result) (ap (λ (k : ℕ). 1 + k) c.from-holder.ensures) names)

pub returns-clause-made : goal.returns-clause-made
returns-clause-made c =
    let at = counted c.self.inside c.args.self.now c.args.words.now c.self.view_is
    c.self.invariant c.requires.table _ c.requires.may locks_from c.args.lock c.lock_at-place.result c.lock_at-place.ensures in
    made c.self.inside c.args.self.now c.args.words.now c.self.view_is
    c.self.invariant c.requires.table _ c.requires.may _ (λ i. LockTry (at i) (holder_of c.args.task (1 + c.from-holder.result) (ap (λ (k : ℕ). 1 + k) c.from-holder.ensures) i))
    c.self.inside.is_open c.compare_exchange-found.new.seat _ _ refl c.compare_exchange-found.ensures.told.0 c.compare_exchange-found.ensures.told.2
