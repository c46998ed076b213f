-- The table is the one of the definition.
use Rattle.call_notes.specs.LockCalls.{wait_line}
use Rattle.call_notes.specs.SharedLines.{wait_note}
use Rattle.call_notes.proofs.lock_calls.wait_line.Goals as goal

pub returns : goal.returns
unfolding wait_line wait_note
returns c = c.begun_note.ensures
