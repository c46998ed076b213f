-- The table is the one of the definition.
use Rattle.check_notes.specs.CommonNotes.{turns_note}
use Rattle.check_notes.specs.Tables.{loop_line}
use Rattle.check_notes.proofs.tables.loop_line.Goals as goal

pub returns : goal.returns
unfolding loop_line turns_note
returns c = c.begun_note.ensures
