-- The table is the one of the definition.
use Rattle.call_notes.specs.LockCalls.{lock_line}
use Rattle.call_notes.proofs.lock_calls.lock_line.Goals as goal

pub returns : goal.returns
unfolding lock_line
returns c = c.begun_note.ensures
