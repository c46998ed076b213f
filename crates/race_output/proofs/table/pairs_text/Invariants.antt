-- The lines so far are those of the pairs so far.
use Rattle.std.proofs.Common.{◌≡◌, map, take}
use Rattle.std.specs.List.{flat_map}
use Rattle.executions.specs.execution.Run.{Run}
use Rattle.race_output.specs.Blocks.{pair_text}
use Rattle.race_output.specs.Sites.{AreSourcesOf}
use Rattle.race_output.proofs.table.pairs_text.Given as goal

abbrev pub invariant-loop-one : goal.invariant-loop-one
invariant-loop-one l = (run : Run) → AreSourcesOf run l.sources.sites.now l.sources.variables.now l.sources.layout.now l.sources.plain_writes_atomic
    → l.lines.items ≡ flat_map (pair_text run l.sources.text.now (map (λ own. own.items) l.sources.places.now)) (take l.one-index l.pairs)
