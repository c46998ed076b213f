-- so many files were read
use Rattle.std.proofs.Common.{◌≡◌, length}
use Rattle.join_command.specs.Reads.{AreRead}
use Rattle.join_command.proofs.reading.read_files.Given as goal

abbrev pub invariant-loop-name : goal.invariant-loop-name
invariant-loop-name g l =
    (length l.parts.items ≡ l.name-index) × AreRead l.files l.parts.items (g.D.Desk.state l.fn.desk) (g.D.Desk.state l.desk)
