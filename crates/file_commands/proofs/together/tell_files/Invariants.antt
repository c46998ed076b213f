-- so many files were told of
use Rattle.std.proofs.Common.{◌≡◌, List, map}
use Rattle.file_commands.proofs.FilesLemmas.{total}
use Rattle.file_commands.proofs.TogetherLemmas.{ToldSoFar}
use Rattle.file_commands.proofs.together.tell_files.Given as goal
use Rattle.file_commands.specs.Desks.{DeskState}
use Rattle.file_commands.specs.FileWork.{AreRead, FileRead}
use Rattle.file_commands.specs.FilesAsked.{asked_by}
use Rattle.file_commands.specs.Together.{AreEndsOf, texts_of}

abbrev pub invariant-loop-at : goal.invariant-loop-at
invariant-loop-at g l = record {
  ends : AreEndsOf (asked_by l.asked) l.settings (texts_of l.texts) l.ends.items;
  counted : total l.counts ≡ l.at;
  told : (before : DeskState) (reads : List FileRead) → map (λ (read : FileRead). read.name) reads ≡ map (λ file. file.now) l.asked.files.now
      → map (λ (read : FileRead). read.text) reads ≡ texts_of l.texts → AreRead reads before (g.D.Desk.state l.fn.desk)
      → ToldSoFar (asked_by l.asked) l.settings reads l.at l.output.items l.counts l.status before (g.D.Desk.state l.fn.desk)
      (g.D.Desk.state l.desk);
}
