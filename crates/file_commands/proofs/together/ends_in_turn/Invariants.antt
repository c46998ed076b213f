-- what comes of the texts so far
use Rattle.file_commands.specs.FilesAsked.{asked_by}
use Rattle.file_commands.specs.Together.{AreEndsOf, texts_of}
use Rattle.file_commands.proofs.together.ends_in_turn.Given as goal

abbrev pub invariant-loop : goal.invariant-loop
invariant-loop g l = AreEndsOf (asked_by l.asked) l.settings (texts_of l.texts) l.ends.items
