-- What is read so far is that of the values so far.
use Rattle.std.proofs.Common.{◌≡◌, map, take}
use Rattle.part_search.specs.part_file.Reads.{entry_in}
use Rattle.serde_json.specs.View.{view}
use Rattle.part_search.proofs.part_file.reading.entries_of.Given as goal

abbrev pub invariant-loop-value : goal.invariant-loop-value
invariant-loop-value l = l.entries.items ≡ map (λ value. entry_in (view value)) (take l.value-index l.values)
