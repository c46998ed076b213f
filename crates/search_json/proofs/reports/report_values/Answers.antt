-- The value of one report more stands behind the others.
use Rattle.std.proofs.Common.{◌∙◌, ◌∷◌, [], ◌≤◌, List, ap, arith, length, map}
use Rattle.std.proofs.lemmas.List.{map-append, take_all}
use Rattle.access_types.specs.declared.report.Report.{Report}
use Rattle.search_json.proofs.Taken.{mapped_more}
use Rattle.search_json.proofs.reports.report_values.Goals as goal
use Rattle.search_json.specs.Reports.{sighting_data}
use Rattle.search_text.specs.Times.{Sighting}
use Rattle.serde_json.specs.Data.{Data}
use Rattle.serde_json.specs.View.{view}

pub loop-place-preserved : goal.loop-place-preserved
loop-place-preserved c = λ places lays.
    let value = c.in_ok-value-in-Some.value in
    let sources = c.args.sources in
    ap (map view) c.in_ok-push-in-Some.ensures.items
    ∙ map-append view c.loop-place.values.items (value ∷ [])
    ∙ mapped_more (sighting_data places sources.variables.now sources.text.now (map (λ own. own.items) sources.places.now) c.args.sites.now
    c.known-known.result.now c.args.counted) c.reports-reports.result.now c.loop-place.place (c.in-Some.text.now, c.in-Some.seen.now)
    (map view c.loop-place.values.items) (view value) (c.loop-place.invariant places lays)
    (c.in_ok-value-in-Some.ensures places lays) c.in-Some.ensures

pub returns : goal.returns
returns c = λ places lays.
    let sources = c.args.sources in
    let spots = map (λ own. own.items) sources.places.now in
    let past : length c.reports-reports.result.now ≤ c.loop-place.place = omega (arith, c.loop-place-test.false, c.len-place-end.ensures) in
    let all : List Report → List Sighting → List Data =
    λ known. map (sighting_data places sources.variables.now sources.text.now spots c.args.sites.now known c.args.counted) in
    c.loop-place.invariant places lays
    ∙ ap (all c.known-known.result.now) (take_all c.loop-place.place c.reports-reports.result.now past)
    ∙ ap (λ (known : List Report). all known c.reports-reports.result.now) c.known-known.ensures
    ∙ ap (all c.args.found.now.known.items) c.reports-reports.ensures
