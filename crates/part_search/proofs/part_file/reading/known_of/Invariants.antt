-- What is read so far is that of the values so far.
use Rattle.std.proofs.Common.{◌≡◌, map, take}
use Rattle.part_search.specs.part_file.Reads.{report_in}
use Rattle.serde_json.specs.View.{view}
use Rattle.part_search.proofs.part_file.reading.known_of.Given as goal

abbrev pub invariant-loop-value : goal.invariant-loop-value
invariant-loop-value l = l.known.items ≡ map (λ value. report_in (view value)) (take l.value-index l.values)
