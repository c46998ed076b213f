-- The table is the one of the definition.
use Rattle.call_notes.specs.BitCalls.{bit_line}
use Rattle.call_notes.specs.SharedLines.{bit_lock_note}
use Rattle.call_notes.proofs.bit_calls.bit_line.Goals as goal

pub returns : goal.returns
unfolding bit_line bit_lock_note
returns c = c.begun_note.ensures
