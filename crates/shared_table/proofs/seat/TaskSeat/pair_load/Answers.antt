use Rattle.std.proofs.Common.{◌/◌, ◌^◌, ℕ, ap, sym}
use Rattle.slot_table.specs.declared.step.Answer.TheVariants as answers
use Rattle.slot_table.specs.declared.step.Step.TheVariants.{PairLoad}
use Rattle.shared_table.specs.Row.{pairs_from}
use Rattle.shared_table.proofs.Calls.{asks_as, counted, made}
use Rattle.shared_table.proofs.Steps.{loads_pair}
use Rattle.std.proofs.lemmas.Nat.{and_mask}
use Rattle.shared_table.proofs.seat.TaskSeat.pair_load.Goals as goal

pub load-both-requires : goal.load-both-requires
load-both-requires c =
    let at = counted c.self.inside c.args.self.now c.args.words.now c.self.view_is
    c.self.invariant c.requires.table _ c.requires.may pairs_from c.args.index c.pair_at-place.result c.pair_at-place.ensures in
    asks_as c.self.inside c.args.self.now c.args.words.now c.self.view_is
    c.self.invariant c.requires.table _ c.requires.may _ (ap PairLoad at)
    pairs_from c.args.index c.pair_at-place.result c.pair_at-place.ensures _ _
    (λ given is names. loads_pair given c.args.index c.pair_at-place.result is names)

pub returns-clause-made : goal.returns-clause-made
returns-clause-made c =
    let at = counted c.self.inside c.args.self.now c.args.words.now c.self.view_is
    c.self.invariant c.requires.table _ c.requires.may pairs_from c.args.index c.pair_at-place.result c.pair_at-place.ensures in
    made c.self.inside c.args.self.now c.args.words.now c.self.view_is
    c.self.invariant c.requires.table _ c.requires.may _ (ap PairLoad at)
    c.self.inside.is_open c.load-both.new.seat _ _ (ap (λ (lower : ℕ). answers.Halves (c.load-both.result / 2 ^ 32) lower) (sym (and_mask c.load-both.result 32))) c.load-both.ensures.told.0 c.load-both.ensures.told.2
