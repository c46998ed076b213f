-- The places of the sites so far.
use Rattle.std.proofs.Common.{◌≡◌, List, map, take}
use Rattle.litmus_semantics.specs.Layout.{VariablePlace}
use Rattle.prepared_program.specs.program_layout.Lays.{Lays}
use Rattle.source_places.specs.Lines.{place_of}
use Rattle.source_places.specs.Sites.{site_place}
use Rattle.source_places.proofs.sites.site_places.Given as goal

abbrev pub invariant-loop-placed : goal.invariant-loop-placed
invariant-loop-placed l = (places : List VariablePlace) → Lays places l.sources.variables.now l.sources.layout.now
    → map place_of l.found.items ≡ map (site_place places l.sources.variables.now l.sources.file.now l.sources.text.now
    (map (λ own. own.items) l.sources.places.now)) (take l.placed-index l.sites)
