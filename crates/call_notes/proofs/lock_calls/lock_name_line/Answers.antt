-- The table is the one of the definition.
use Rattle.call_notes.specs.LockCalls.{lock_name_line}
use Rattle.call_notes.proofs.lock_calls.lock_name_line.Goals as goal

pub returns : goal.returns
unfolding lock_name_line
returns c = c.named_note.ensures
