-- The table is the one of the definition.
use Rattle.call_notes.specs.OtherCalls.{access_line}
use Rattle.call_notes.proofs.other_calls.access_line.Goals as goal

pub returns : goal.returns
unfolding access_line
returns c = c.begun_note.ensures
