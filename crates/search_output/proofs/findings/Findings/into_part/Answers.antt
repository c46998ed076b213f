-- the data are those of what is found
use Rattle.std.proofs.Common.{subst, sym}
use Rattle.search_output.specs.Lists.{all_searched}
use Rattle.search_text.specs.SearchFindings.{AreKnown, Finds}
use Rattle.search_output.proofs.findings.Findings.into_part.Goals as goal

pub returns : goal.returns
returns c = λ settings traced run lists finds. record {
  finds = subst (Finds (all_searched lists)) (sym c.in_ok-found.ensures) finds.finds;
  known = subst (AreKnown run.sites) (sym c.in_ok-found.ensures) finds.known;
  trace = finds.trace;
}
