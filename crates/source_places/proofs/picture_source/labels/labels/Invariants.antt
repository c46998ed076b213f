-- what is known of the sites so far
use Rattle.std.proofs.Common.{◌≡◌, List, map, take}
use Rattle.litmus_semantics.specs.Layout.{VariablePlace}
use Rattle.prepared_program.specs.program_layout.Lays.{Lays}
use Rattle.source_places.specs.picture_source.Labels.{said_by, site_says}
use Rattle.source_places.proofs.picture_source.labels.labels.Given as goal

abbrev pub invariant-loop-placed : goal.invariant-loop-placed
invariant-loop-placed l = (places : List VariablePlace) → Lays places l.sources.variables.now l.sources.layout.now
    → map said_by l.found.items ≡ map (site_says places l.sources.variables.now l.sources.text.now
    (map (λ own. own.items) l.sources.places.now)) (take l.placed-index l.sites)
