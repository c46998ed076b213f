-- each group is what its call wrote
use Rattle.std.proofs.Common.{◌++◌, ◌∙◌, [], ap, append-nil, subst, sym}
use Rattle.std.specs.List.{flat_map}
use Rattle.report_text.specs.Groups.{group_text}
use Rattle.report_text.specs.Sink.{FailsWithin, Takes}
use Rattle.report_text.proofs.Entries.{one_group_more, shown}
use Rattle.report_text.proofs.SinkSteps.{fails_first, fails_second, takes_both, takes_nothing, writes_error}
use Rattle.report_text.proofs.groups.Groups.write.Goals as goal

pub loop-text-init : goal.loop-text-init
loop-text-init g c = (
  [],
  ap (λ es. flat_map group_text (shown es)) (c.into_iter-text-iterator.ensures.into_iter_gives ∙ c.iter-text-items.ensures.rest)
      ∙ ap (λ groups. flat_map group_text groups) c.self.view_is,
  takes_nothing g.K.Sink.written g.K.Sink.failures c.args.sink.now,
)

pub loop-text-preserved : goal.loop-text-preserved
loop-text-preserved g c =
    let inv = c.loop-text.invariant in
    let same = c.as_slice.ensures.value in (
      inv.0 ++ group_text (c.in-Some.text.now.items, c.in-Some.count.now),
      one_group_more inv.0 (c.in-Some.text.now, c.in-Some.count.now) c.loop-text.text-iterator c.next.new.self _ c.in-Some.ensures.steps inv.1,
      takes_both g.K.Sink.written g.K.Sink.failures _ _ _ _ _ inv.2
          (subst (λ t. Takes g.K.Sink.written g.K.Sink.failures (group_text (t, c.in-Some.count.now)) c.loop-text.sink c.write_group.new.sink)
          same c.in_ok-write_group.ensures),
    )

pub returns-in_err-write_group : goal.returns-in_err-write_group
returns-in_err-write_group g c =
    let inv = c.loop-text.invariant in
    let same = c.as_slice.ensures.value in
    writes_error g.K.Sink.written g.K.Sink.failures _ _ _ _ c.from_residual.ensures.0
    (subst (λ t. FailsWithin g.K.Sink.written g.K.Sink.failures t c.args.sink.now c.write_group.new.sink)
    (one_group_more inv.0 (c.in-Some.text.now, c.in-Some.count.now) c.loop-text.text-iterator c.next.new.self _ c.in-Some.ensures.steps inv.1)
    (fails_first g.K.Sink.written g.K.Sink.failures _ _ _ _
    (fails_second g.K.Sink.written g.K.Sink.failures _ _ _ _ _ inv.2
    (subst (λ t. FailsWithin g.K.Sink.written g.K.Sink.failures (group_text (t, c.in-Some.count.now)) c.loop-text.sink c.write_group.new.sink)
    same c.in_err-write_group.ensures))))

pub returns : goal.returns
returns g c =
    let inv = c.loop-text.invariant in
    subst (λ t. Takes g.K.Sink.written g.K.Sink.failures t c.args.sink.now c.loop-text.sink)
    (sym (append-nil inv.0) ∙ ap (λ es. inv.0 ++ flat_map group_text (shown es)) (sym c.in-None.ensures.steps.0) ∙ inv.1)
    inv.2
