-- each is what its call wrote
use Rattle.std.proofs.Common.{◌≡◌, ◌++◌, ◌∙◌, [], ap, append-nil, rules, subst, sym}
use Rattle.std.specs.List.{flat_map}
use Rattle.report_text.specs.Sink.{FailsWithin, Takes}
use Rattle.report_text.proofs.SinkSteps.{fails_first, fails_second, takes_both, takes_nothing, writes_error}
use Rattle.search_text.proofs.Shown.{one_more_text, shown}
use Rattle.search_text.specs.Write.{state_line}
use Rattle.search_text.proofs.seen.Sightings.write_states.Goals as goal

pub loop-text-init : goal.loop-text-init
loop-text-init g c = (
  [],
  ap (λ es. flat_map state_line (shown es)) (c.into_iter-text-iterator.ensures.into_iter_gives ∙ c.iter-text-items.ensures.rest)
      ∙ ap (λ all. flat_map state_line all) c.self.view_is,
  takes_nothing g.K.Sink.written g.K.Sink.failures c.args.sink.now,
)

pub loop-text-preserved : goal.loop-text-preserved
loop-text-preserved g c =
    let inv = c.loop-text.invariant in
    let same : state_line (c.as_slice.result.now, (c.times.result, c.in-Some.seen.now.1)) ≡ state_line (c.in-Some.text.now.items, c.in-Some.seen.now) = search rules in (
      inv.0 ++ state_line (c.in-Some.text.now.items, c.in-Some.seen.now),
      one_more_text state_line inv.0 (c.in-Some.text.now, c.in-Some.seen.now) c.loop-text.text-iterator c.next.new.self _ c.in-Some.ensures.steps inv.1,
      takes_both g.K.Sink.written g.K.Sink.failures _ _ _ _ _ inv.2
          (subst (λ t. Takes g.K.Sink.written g.K.Sink.failures t c.loop-text.sink c.write_state.new.sink) same (c.in_ok-write_state.ensures c.in-Some.seen.now.1)),
    )

pub returns-in_err-write_state : goal.returns-in_err-write_state
returns-in_err-write_state g c =
    let inv = c.loop-text.invariant in
    let same : state_line (c.as_slice.result.now, (c.times.result, c.in-Some.seen.now.1)) ≡ state_line (c.in-Some.text.now.items, c.in-Some.seen.now) = search rules in
    writes_error g.K.Sink.written g.K.Sink.failures _ _ _ _ c.from_residual.ensures.0
    (subst (λ t. FailsWithin g.K.Sink.written g.K.Sink.failures t c.args.sink.now c.write_state.new.sink)
    (one_more_text state_line inv.0 (c.in-Some.text.now, c.in-Some.seen.now) c.loop-text.text-iterator c.next.new.self _ c.in-Some.ensures.steps inv.1)
    (fails_first g.K.Sink.written g.K.Sink.failures _ _ _ _
    (fails_second g.K.Sink.written g.K.Sink.failures _ _ _ _ _ inv.2
    (subst (λ t. FailsWithin g.K.Sink.written g.K.Sink.failures t c.loop-text.sink c.write_state.new.sink) same (c.in_err-write_state.ensures c.in-Some.seen.now.1)))))

pub returns : goal.returns
returns g c =
    let inv = c.loop-text.invariant in
    subst (λ t. Takes g.K.Sink.written g.K.Sink.failures t c.args.sink.now c.loop-text.sink)
    (sym (append-nil inv.0) ∙ ap (λ es. inv.0 ++ flat_map state_line (shown es)) (sym c.in-None.ensures.steps.0) ∙ inv.1)
    inv.2
