-- whether it was stopped tells which text is written
use Rattle.std.proofs.Common.{◌≡◌, ◌∙◌, ap, false, if◌then◌else◌, sym, true}
use Rattle.report_text.proofs.SinkSteps.{writes_same}
use Rattle.search_text.specs.Stops.{is_stopped}
use Rattle.search_text.specs.Write.{counted_text, uncounted_text}
use Rattle.search_text.proofs.write.write_seen.Goals as goal

pub returns-then-is_stopped : goal.returns-then-is_stopped
returns-then-is_stopped g c =
    let found = c.args.found.now in
    let told : is_stopped c.args.stopped ≡ true = sym c.is_stopped.ensures ∙ c.if-is_stopped.true in
    writes_same g.K.Sink.written g.K.Sink.failures _ _ _ _ _
    (ap (λ b. if b then uncounted_text found.reports found.stuck else counted_text found.reports found.stuck) (sym told)) c.write_uncounted.ensures

pub returns-else-is_stopped : goal.returns-else-is_stopped
returns-else-is_stopped g c =
    let found = c.args.found.now in
    let told : is_stopped c.args.stopped ≡ false = sym c.is_stopped.ensures ∙ c.if-is_stopped.false in
    writes_same g.K.Sink.written g.K.Sink.failures _ _ _ _ _
    (ap (λ b. if b then uncounted_text found.reports found.stuck else counted_text found.reports found.stuck) (sym told)) c.write_counted.ensures
