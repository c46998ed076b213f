-- the texts that are kept are those of the lists
use Rattle.search_text.proofs.FoundLemmas.{text_there}
use Rattle.search_text.proofs.found.SearchFindings.has_report_text.Goals as goal

pub returns : goal.returns
returns c = λ lists finds. text_there (λ one. one.texts) c.args.text.now lists c.args.self.now.reports c.contains.result c.contains.ensures finds.reports
