-- The places left are fewer.
use Rattle.std.proofs.Common.{length}
use Rattle.source_places.proofs.lines.+placed.Given as goal

abbrev pub decreases-placed : goal.decreases-placed
decreases-placed l = length l.places.now
