use Rattle.std.proofs.Common.{true, refl}
use Rattle.slot_table.specs.declared.step.Answer.TheVariants as answers
use Rattle.slot_table.specs.declared.step.Step.TheVariants.{Name}
use Rattle.shared_table.specs.Row.{pairs_from}
use Rattle.shared_table.proofs.Calls.{asks_as, counted, made}
use Rattle.shared_table.proofs.Steps.{names_setter}
use Rattle.shared_table.proofs.Steps.{ticket_of}
use Rattle.shared_table.proofs.seat.TaskSeat.name.Goals as goal

pub fetch_or-requires : goal.fetch_or-requires
fetch_or-requires c =
    let at = counted c.self.inside c.args.self.now c.args.words.now c.self.view_is
    c.self.invariant c.requires.table _ c.requires.may pairs_from c.args.index c.pair_at-place.result c.pair_at-place.ensures in
    asks_as c.self.inside c.args.self.now c.args.words.now c.self.view_is
    c.self.invariant c.requires.table _ c.requires.may _ (λ i. Name (at i) (ticket_of c.args.ticket c.setters_half-half.result c.setters_half-half.ensures i))
    pairs_from c.args.index c.pair_at-place.result c.pair_at-place.ensures _ _
    (λ given is names. names_setter given c.args.index c.pair_at-place.result is c.args.ticket c.setters_half-half.result c.setters_half-half.ensures names)

pub returns-clause-made : goal.returns-clause-made
returns-clause-made c =
    let at = counted c.self.inside c.args.self.now c.args.words.now c.self.view_is
    c.self.invariant c.requires.table _ c.requires.may pairs_from c.args.index c.pair_at-place.result c.pair_at-place.ensures in
    made c.self.inside c.args.self.now c.args.words.now c.self.view_is
    c.self.invariant c.requires.table _ c.requires.may _ (λ i. Name (at i) (ticket_of c.args.ticket c.setters_half-half.result c.setters_half-half.ensures i))
    true c.fetch_or.new.seat answers.Done answers.Done refl c.fetch_or.ensures.told.0 c.fetch_or.ensures.told.2
