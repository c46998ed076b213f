-- What is added of the bytes so far, and what is still to be added, are what is to be added of all.
use Rattle.std.proofs.Common.{◌≡◌, ◌++◌, drop, map}
use Rattle.source_places.specs.Lines.{place_of, placed_from}
use Rattle.source_places.proofs.lines.add_all.Given as goal

abbrev pub invariant-loop-byte : goal.invariant-loop-byte
invariant-loop-byte l =
    l.text.items ++ placed_from (map place_of l.places) l.line.items (drop l.byte-index l.output)
    ≡ l.initial.text.items ++ placed_from (map place_of l.places) l.initial.line.items l.output
