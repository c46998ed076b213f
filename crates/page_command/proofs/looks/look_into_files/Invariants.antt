-- so many files were looked into, and a page tells this of them
use Rattle.file_commands.specs.FilesAsked.{asked_by}
use Rattle.page_command.proofs.LookLemmas.{ToldSoFar}
use Rattle.page_command.proofs.looks.look_into_files.Given as goal

abbrev pub invariant-loop-name : goal.invariant-loop-name
invariant-loop-name g l =
    let seen = g.D.Desk.state in
    ToldSoFar (asked_by l.asked) l.work.format l.settings l.name-index l.output.items l.counts l.status l.files.items (seen l.fn.desk) (seen l.desk)
