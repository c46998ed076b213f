-- The table is the one of the definition.
use Rattle.call_notes.specs.AtomicCalls.{increase_line}
use Rattle.call_notes.proofs.atomic_calls.increase_line.Goals as goal

pub returns : goal.returns
unfolding increase_line
returns c = c.begun_note.ensures
