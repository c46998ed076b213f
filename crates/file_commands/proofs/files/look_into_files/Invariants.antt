-- so many files were looked into
use Rattle.file_commands.proofs.FilesLemmas.{SearchedSoFar}
use Rattle.file_commands.specs.FilesAsked.{asked_by}
use Rattle.file_commands.proofs.files.look_into_files.Given as goal

abbrev pub invariant-loop-name : goal.invariant-loop-name
invariant-loop-name g l =
    let seen = g.D.Desk.state in
    SearchedSoFar (asked_by l.asked) l.settings l.name-index l.output.items l.counts l.status (seen l.fn.desk) (seen l.desk)
