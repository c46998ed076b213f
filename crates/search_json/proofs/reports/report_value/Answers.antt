-- The two accesses are those of the report.
use Rattle.std.proofs.Common.{◌∙◌, Option, ap, map}
use Rattle.access_types.specs.declared.report.ValueChange.{ValueChange}
use Rattle.search_json.proofs.reports.report_value.Goals as goal
use Rattle.search_json.specs.Reports.{finder_of, report_data, seen_data, setter_of, side_data}
use Rattle.serde_json.specs.Data.{Data}
use Rattle.serde_json.specs.View.{view}

pub returns : goal.returns
unfolding report_data
returns c = λ places lays.
    let sources = c.args.sources in
    let counted = c.args.counted in
    let seen = c.args.seen.now in
    let side = side_data places sources.variables.now sources.text.now (map (λ own. own.items) sources.places.now) in
    let finder = view c.in_ok-finder.finder in
    let change = c.change_of.result in
    let setter_is = c.in_ok-setter.ensures places lays ∙ ap side c.setter_of.ensures in
    let finder_is = c.in_ok-finder.ensures places lays ∙ ap side c.finder_of.ensures in
    c.in_ok-value.ensures
    ∙ ap (λ (setter : Data). seen_data setter finder change counted seen) setter_is
    ∙ ap (λ (finder : Data). seen_data (side (setter_of c.args.sites.now c.args.report)) finder change counted seen) finder_is
    ∙ ap (λ (change : Option ValueChange). seen_data (side (setter_of c.args.sites.now c.args.report))
    (side (finder_of c.args.sites.now c.args.report)) change counted seen) c.change_of.ensures
