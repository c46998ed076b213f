-- The table is the one of the definition.
use Rattle.check_notes.specs.Tables.{type_line}
use Rattle.check_notes.proofs.tables.type_line.Goals as goal

pub returns : goal.returns
unfolding type_line
returns c = c.named_note.ensures
