-- The table is the one of the definition.
use Rattle.call_notes.specs.BitCalls.{bit_name_line}
use Rattle.call_notes.proofs.bit_calls.bit_name_line.Goals as goal

pub returns : goal.returns
unfolding bit_name_line
returns c = c.named_note.ensures
