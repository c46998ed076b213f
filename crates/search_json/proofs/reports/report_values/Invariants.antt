-- The values so far are those of the reports so far.
use Rattle.std.proofs.Common.{◌≡◌, List, map, take}
use Rattle.litmus_semantics.specs.Layout.{VariablePlace}
use Rattle.prepared_program.specs.program_layout.Lays.{Lays}
use Rattle.search_json.proofs.reports.report_values.Given as goal
use Rattle.search_json.specs.Reports.{sighting_data}
use Rattle.serde_json.specs.View.{view}

abbrev pub invariant-loop-place : goal.invariant-loop-place
invariant-loop-place l = (places : List VariablePlace) → Lays places l.sources.variables.now l.sources.layout.now
    → map view l.values.items
    ≡ map (sighting_data places l.sources.variables.now l.sources.text.now (map (λ own. own.items) l.sources.places.now) l.sites
    l.known l.counted) (take l.place l.reports)
