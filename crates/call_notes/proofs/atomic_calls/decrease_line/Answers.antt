-- The table is the one of the definition.
use Rattle.call_notes.specs.AtomicCalls.{decrease_line}
use Rattle.call_notes.proofs.atomic_calls.decrease_line.Goals as goal

pub returns : goal.returns
unfolding decrease_line
returns c = c.begun_note.ensures
