-- The table is the one of the definition.
use Rattle.call_notes.specs.OtherCalls.{access_name_line}
use Rattle.call_notes.specs.SharedLines.{jump_note, number_note}
use Rattle.call_notes.proofs.other_calls.access_name_line.Goals as goal

pub returns : goal.returns
unfolding access_name_line jump_note number_note
returns c = c.named_note.ensures
