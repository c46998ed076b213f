-- The table is the one of the definition.
use Rattle.call_notes.specs.OtherCalls.{left_out_name_line}
use Rattle.call_notes.proofs.other_calls.left_out_name_line.Goals as goal

pub returns : goal.returns
unfolding left_out_name_line
returns c = c.named_note.ensures
