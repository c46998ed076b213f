-- each is what its call wrote
use Rattle.std.proofs.Common.{◌≡◌, ◌++◌, ◌∙◌, [], ap, append-nil, rules, subst, sym}
use Rattle.std.specs.List.{flat_map}
use Rattle.report_text.specs.Sink.{FailsWithin, Takes}
use Rattle.report_text.proofs.SinkSteps.{fails_first, fails_second, takes_both, takes_nothing, writes_error}
use Rattle.search_text.proofs.Shown.{one_more_text, shown}
use Rattle.search_text.specs.Write.{first_line, first_text}
use Rattle.search_text.proofs.seen.Sightings.write_firsts.Goals as goal

pub loop-text-init : goal.loop-text-init
loop-text-init g c = (
  [],
  ap (λ es. flat_map first_text (shown es)) (c.into_iter-text-iterator.ensures.into_iter_gives ∙ c.iter-text-items.ensures.rest)
      ∙ ap (λ all. flat_map first_text all) c.self.view_is,
  takes_nothing g.K.Sink.written g.K.Sink.failures c.args.sink.now,
)

pub loop-text-preserved : goal.loop-text-preserved
loop-text-preserved g c =
    let inv = c.loop-text.invariant in
    let same : c.as_slice.result.now ++ first_line c.first.result.now ≡ first_text (c.in-Some.text.now.items, c.in-Some.seen.now) = search rules in (
      inv.0 ++ first_text (c.in-Some.text.now.items, c.in-Some.seen.now),
      one_more_text first_text inv.0 (c.in-Some.text.now, c.in-Some.seen.now) c.loop-text.text-iterator c.next.new.self _ c.in-Some.ensures.steps inv.1,
      takes_both g.K.Sink.written g.K.Sink.failures _ _ _ _ _ inv.2
          (subst (λ t. Takes g.K.Sink.written g.K.Sink.failures t c.loop-text.sink c.write_report.new.sink) same c.in_ok-write_report.ensures),
    )

pub returns-in_err-write_report : goal.returns-in_err-write_report
returns-in_err-write_report g c =
    let inv = c.loop-text.invariant in
    let same : c.as_slice.result.now ++ first_line c.first.result.now ≡ first_text (c.in-Some.text.now.items, c.in-Some.seen.now) = search rules in
    writes_error g.K.Sink.written g.K.Sink.failures _ _ _ _ c.from_residual.ensures.0
    (subst (λ t. FailsWithin g.K.Sink.written g.K.Sink.failures t c.args.sink.now c.write_report.new.sink)
    (one_more_text first_text inv.0 (c.in-Some.text.now, c.in-Some.seen.now) c.loop-text.text-iterator c.next.new.self _ c.in-Some.ensures.steps inv.1)
    (fails_first g.K.Sink.written g.K.Sink.failures _ _ _ _
    (fails_second g.K.Sink.written g.K.Sink.failures _ _ _ _ _ inv.2
    (subst (λ t. FailsWithin g.K.Sink.written g.K.Sink.failures t c.loop-text.sink c.write_report.new.sink) same c.in_err-write_report.ensures))))

pub returns : goal.returns
returns g c =
    let inv = c.loop-text.invariant in
    subst (λ t. Takes g.K.Sink.written g.K.Sink.failures t c.args.sink.now c.loop-text.sink)
    (sym (append-nil inv.0) ∙ ap (λ es. inv.0 ++ flat_map first_text (shown es)) (sym c.in-None.ensures.steps.0) ∙ inv.1)
    inv.2
