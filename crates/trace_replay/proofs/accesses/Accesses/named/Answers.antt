-- what stands at the place of the ticket
use Rattle.std.proofs.Common.{◌≡◌, ◌+◌, ◌-◌, ◌∙◌, ap, arith, sym}
use Rattle.std.specs.Prelude.{slice_get}
use Rattle.trace_replay.specs.Table.{value_at}
use Rattle.trace_replay.proofs.Known.{got, named_from, named_to}
use Rattle.trace_replay.proofs.accesses.Accesses.named.Goals as goal

pub returns : goal.returns
returns c = λ all kept s.
    let found : c.copied.result ≡ slice_get all (c.at-place.result - 1) =
    c.copied.ensures ∙ got c.deref.result.now (c.at-place.result - 1) c.get.result c.get.ensures.lookup
    ∙ ap (λ xs. slice_get xs (c.at-place.result - 1)) (c.deref.ensures.value ∙ kept.list) in
    let given : value_at c.args.self.now.places c.args.ticket ≡ c.at-place.result =
    ap (value_at c.args.self.now.places) (sym c.from.ensures) ∙ sym c.at-place.ensures in
    let place : value_at c.args.self.now.places c.args.ticket ≡ c.at-place.result - 1 + 1 = omega (arith, given, c.if-place-eq0.false) in (
      λ e. named_to all c.args.self.now.places kept.places c.args.ticket (c.at-place.result - 1) s place (sym found ∙ e),
      λ is.
          let from = named_from all c.args.self.now.places kept.places c.args.ticket s is in
          let there : value_at c.args.self.now.places c.args.ticket ≡ from.0 + 1 = from.1 in
          let same : c.at-place.result - 1 ≡ from.0 = omega (arith, place, there) in
          found ∙ ap (slice_get all) same ∙ from.2,
    )
