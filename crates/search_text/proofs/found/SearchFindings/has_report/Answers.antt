-- there are texts where there are sightings
use Rattle.std.proofs.Common.{◌∙◌, ap, not, ◌==◌}
use Rattle.search_text.proofs.FoundLemmas.{reports_kept}
use Rattle.search_text.proofs.found.SearchFindings.has_report.Goals as goal

pub returns : goal.returns
returns c = λ lists finds. ap (λ n. not (n == 0)) c.len.ensures ∙ reports_kept lists c.args.self.now finds
