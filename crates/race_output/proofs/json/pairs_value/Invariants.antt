-- The values so far are those of the pairs so far.
use Rattle.std.proofs.Common.{◌≡◌, map, take}
use Rattle.executions.specs.execution.Run.{Run}
use Rattle.race_output.specs.Json.{pair_data}
use Rattle.race_output.specs.Sites.{AreSourcesOf}
use Rattle.serde_json.specs.View.{view}
use Rattle.race_output.proofs.json.pairs_value.Given as goal

abbrev pub invariant-loop-one : goal.invariant-loop-one
invariant-loop-one l = (run : Run) → AreSourcesOf run l.sources.sites.now l.sources.variables.now l.sources.layout.now l.sources.plain_writes_atomic
    → map view l.values.items
    ≡ map (pair_data run l.sources.text.now (map (λ own. own.items) l.sources.places.now)) (take l.one-index l.pairs)
