-- The lines so far, and those of the tokens to come, are all.
use Rattle.std.proofs.Common.{◌≡◌, ◌++◌, drop}
use Rattle.check_warnings.specs.OtherReadings.{lines_at, places_of_spots}
use Rattle.check_warnings.proofs.other_readings.spots_lines.Given as goal

abbrev pub invariant-loop-spot : goal.invariant-loop-spot
invariant-loop-spot l =
    l.lines.items ++ lines_at l.file l.text (places_of_spots (drop l.spot-index l.spots))
    ≡ lines_at l.file l.text (places_of_spots l.spots)
