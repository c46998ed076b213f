-- The values so far are those of the entries so far.
use Rattle.std.proofs.Common.{◌≡◌, map, take}
use Rattle.part_search.specs.part_file.Values.{entry_data}
use Rattle.serde_json.specs.View.{view}
use Rattle.part_search.proofs.part_file.values.entry_values.Given as goal

abbrev pub invariant-loop-entry : goal.invariant-loop-entry
invariant-loop-entry l = map view l.values.items ≡ map entry_data (take l.entry-index l.entries)
