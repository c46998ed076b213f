-- The table is the one of the definition.
use Rattle.call_notes.specs.AtomicCalls.{exchange_line}
use Rattle.call_notes.proofs.atomic_calls.exchange_line.Goals as goal

pub returns : goal.returns
unfolding exchange_line
returns c = c.begun_note.ensures
