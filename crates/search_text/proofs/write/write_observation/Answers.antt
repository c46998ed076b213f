-- each part is what its call left, up to the one that failed
use Rattle.std.proofs.Common.{◌++◌, ap, codes}
use Rattle.report_text.proofs.SinkSteps.{fails_first, fails_second, writes_after, writes_error, writes_same}
use Rattle.search_text.specs.Write.{observed}
use Rattle.search_text.proofs.write.write_observation.Goals as goal

pub returns-in_err-write_all : goal.returns-in_err-write_all
returns-in_err-write_all g c =
    writes_error g.K.Sink.written g.K.Sink.failures _ _ _ _ c.from_residual.ensures.0
    (fails_first g.K.Sink.written g.K.Sink.failures _ _ _ _ c.in_err-write_all.ensures)

pub returns-in_err-write_all-2 : goal.returns-in_err-write_all-2
returns-in_err-write_all-2 g c =
    writes_same g.K.Sink.written g.K.Sink.failures _ _ _ _ _
    (ap (λ name. codes "Observation " ++ (name ++ observed c.args.held c.args.failed)) c.as_bytes.ensures.value)
    (writes_error g.K.Sink.written g.K.Sink.failures _ _ _ _ c.from_residual-in_err-write_all-2.ensures.0
    (fails_second g.K.Sink.written g.K.Sink.failures _ _ _ _ _ c.in_ok-write_all.ensures
    (fails_first g.K.Sink.written g.K.Sink.failures _ _ _ _ c.in_err-write_all-2.ensures)))

pub returns : goal.returns
returns g c =
    writes_same g.K.Sink.written g.K.Sink.failures _ _ _ _ _
    (ap (λ name. codes "Observation " ++ (name ++ observed c.args.held c.args.failed)) c.as_bytes.ensures.value)
    (writes_after g.K.Sink.written g.K.Sink.failures _ _ _ _ _ _ c.in_ok-write_all.ensures
    (writes_after g.K.Sink.written g.K.Sink.failures _ _ _ _ _ _ c.in_ok-write_all-2.ensures c.write_observed.ensures))
