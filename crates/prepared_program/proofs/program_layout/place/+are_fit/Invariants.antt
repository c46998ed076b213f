-- The places left are fewer.
use Rattle.std.proofs.Common.{length}
use Rattle.prepared_program.proofs.program_layout.place.+are_fit.Given as goal

abbrev pub decreases-are_fit : goal.decreases-are_fit
decreases-are_fit l = length l.places.now
