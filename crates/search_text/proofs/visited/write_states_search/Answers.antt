-- what is found of both lists is what is written
use Rattle.report_text.proofs.SinkSteps.{writes_same}
use Rattle.search_text.proofs.FoundLemmas.{text_of_both_is}
use Rattle.search_text.proofs.visited.write_states_search.Goals as goal

pub returns : goal.returns
returns g c = λ reports ends first second.
    writes_same g.K.Sink.written g.K.Sink.failures _ _ _ _ _
    (text_of_both_is c.args.name.now c.args.visited.stopped c.args.visited.states reports ends c.args.reported.now c.args.ended.now
    first second) c.write_both.ensures
