-- The table is the one of the definition.
use Rattle.call_notes.specs.AtomicCalls.{bits_line}
use Rattle.call_notes.proofs.atomic_calls.bits_line.Goals as goal

pub returns : goal.returns
unfolding bits_line
returns c = c.begun_note.ensures
