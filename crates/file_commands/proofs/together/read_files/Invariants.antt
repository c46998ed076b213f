-- so many files were read
use Rattle.file_commands.proofs.TogetherLemmas.{ReadSoFar}
use Rattle.file_commands.specs.FilesAsked.{asked_by}
use Rattle.file_commands.specs.Together.{texts_of}
use Rattle.file_commands.proofs.together.read_files.Given as goal

abbrev pub invariant-loop-name : goal.invariant-loop-name
invariant-loop-name g l =
    let seen = g.D.Desk.state in
    ReadSoFar (asked_by l.asked) l.name-index (texts_of l.texts.items) (seen l.fn.desk) (seen l.desk)
