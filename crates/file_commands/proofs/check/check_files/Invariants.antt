-- so many files were gone over
use Rattle.std.proofs.Common.{map}
use Rattle.file_commands.proofs.CheckLemmas.{SoFar}
use Rattle.file_commands.proofs.check.check_files.Given as goal

abbrev pub invariant-loop-name : goal.invariant-loop-name
invariant-loop-name g l =
    let seen = g.D.Desk.state in
    SoFar (map (λ file. file.now) l.request.files.items) l.settings l.files l.name-index l.output.items l.read l.status
    (seen l.fn.desk) (seen l.desk)
