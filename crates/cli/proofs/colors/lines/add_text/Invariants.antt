-- What is added of the bytes so far, and what is still to be added, are what is to be added of all.
use Rattle.std.proofs.Common.{◌≡◌, ◌++◌, drop, map}
use Rattle.cli.specs.colors.Colored.{colored_from, row_of}
use Rattle.cli.proofs.colors.lines.add_text.Given as goal

abbrev pub invariant-loop-byte : goal.invariant-loop-byte
invariant-loop-byte l =
    l.text.items ++ colored_from (map row_of l.styles) l.line.items (drop l.byte-index l.added)
    ≡ l.initial.text.items ++ colored_from (map row_of l.styles) l.initial.line.items l.added
