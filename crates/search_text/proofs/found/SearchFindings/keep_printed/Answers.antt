-- the reports alone change
use Rattle.std.proofs.Common.{◌∙◌, List, ap, sym}
use Rattle.search_text.proofs.PrintedLemmas.{all_shown}
use Rattle.search_text.specs.Printed.{printed}
use Rattle.search_text.specs.Times.{Sighting}
use Rattle.search_text.proofs.found.SearchFindings.keep_printed.Goals as goal

pub returns-then-unknown : goal.returns-then-unknown
returns-then-unknown c =
    ap (λ (reports : List Sighting). record c.args.self.now { reports = reports }) (all_shown c.args.self.now.reports)
    ∙ ap (λ unknown. printed unknown c.args.self.now) (sym c.if-unknown.true)

pub returns : goal.returns
returns c =
    ap (λ (reports : List Sighting). record c.args.self.now { reports = reports }) c.keep_shown.ensures
    ∙ ap (λ unknown. printed unknown c.args.self.now) (sym c.if-unknown.false)
