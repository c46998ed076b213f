-- The table is the one of the definition.
use Rattle.call_notes.specs.OtherCalls.{left_out_line}
use Rattle.call_notes.proofs.other_calls.left_out_line.Goals as goal

pub returns : goal.returns
unfolding left_out_line
returns c = c.begun_note.ensures
