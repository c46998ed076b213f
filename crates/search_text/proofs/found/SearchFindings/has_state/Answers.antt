-- the final states that are kept are those of the lists
use Rattle.search_text.proofs.FoundLemmas.{text_there}
use Rattle.search_text.specs.SearchFindings.{states_of}
use Rattle.search_text.proofs.found.SearchFindings.has_state.Goals as goal

pub returns : goal.returns
returns c = λ lists finds. text_there states_of c.args.state.now lists c.args.self.now.states c.contains.result c.contains.ensures finds.states
