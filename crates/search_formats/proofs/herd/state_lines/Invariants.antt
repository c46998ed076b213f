-- The lines so far are those of the states so far.
use Rattle.std.proofs.Common.{◌≡◌, take}
use Rattle.std.specs.List.{flat_map}
use Rattle.search_formats.proofs.herd.state_lines.Given as goal
use Rattle.search_formats.specs.Herd.{state_line}
use Rattle.search_text.specs.Times.{Sighting}

abbrev pub invariant-loop-place : goal.invariant-loop-place
invariant-loop-place l = l.text.items ≡ flat_map (λ (sighting : Sighting). state_line sighting.0) (take l.place l.states)
