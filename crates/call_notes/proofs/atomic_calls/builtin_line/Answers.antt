-- The table is the one of the definition.
use Rattle.call_notes.specs.AtomicCalls.{builtin_line}
use Rattle.call_notes.proofs.atomic_calls.builtin_line.Goals as goal

pub returns : goal.returns
unfolding builtin_line
returns c = c.begun_note.ensures
