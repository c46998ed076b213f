-- what is found of the lists is what is written
use Rattle.report_text.proofs.SinkSteps.{writes_same}
use Rattle.search_text.proofs.FoundLemmas.{text_found_is}
use Rattle.search_text.proofs.write.write_search.Goals as goal

pub returns : goal.returns
returns g c = λ lists finds.
    writes_same g.K.Sink.written g.K.Sink.failures _ _ _ _ _
    (text_found_is c.args.name.now c.args.asked.switches c.args.asked.nodes c.args.asked.stopped lists c.args.found.now finds) c.write_found.ensures
