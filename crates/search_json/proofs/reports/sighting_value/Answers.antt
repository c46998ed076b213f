-- The report is the first that has the text.
use Rattle.std.proofs.Common.{◌∙◌, Option, ap, map}
use Rattle.access_types.specs.declared.report.Report.{Report}
use Rattle.search_json.proofs.reports.sighting_value.Goals as goal
use Rattle.search_json.specs.Reports.{report_data}

pub returns : goal.returns
returns c = λ places lays.
    let sources = c.args.sources in
    c.in_ok-value.ensures places lays
    ∙ ap (λ (report : Option Report). report_data places sources.variables.now sources.text.now (map (λ own. own.items) sources.places.now)
    c.args.sites.now report c.args.counted c.args.seen.now) c.in_ok-report.ensures
