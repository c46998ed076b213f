-- The values of the bytes so far.
use Rattle.std.proofs.Common.{◌≡◌, map, take}
use Rattle.run_output.specs.Finals as spec
use Rattle.run_output.proofs.finals.values_of.Given as goal

abbrev pub invariant-loop-part : goal.invariant-loop-part
invariant-loop-part l = l.values.items ≡ map (spec.value_of l.cells l.words) (take l.part-index l.bytes)
