-- Nothing is amiss with the parts so far.
use Rattle.part_search.specs.part_file.Wholes.{AreRight}
use Rattle.part_search.proofs.part_file.whole.first_wrong.Given as goal

abbrev pub invariant-loop-place : goal.invariant-loop-place
invariant-loop-place l = AreRight l.first l.parts l.place
