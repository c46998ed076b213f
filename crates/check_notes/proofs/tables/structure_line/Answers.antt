-- The table is the one of the definition.
use Rattle.check_notes.specs.Tables.{structure_line}
use Rattle.check_notes.proofs.tables.structure_line.Goals as goal

pub returns : goal.returns
unfolding structure_line
returns c = c.begun_note.ensures
