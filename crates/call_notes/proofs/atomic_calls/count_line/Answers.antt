-- The table is the one of the definition.
use Rattle.call_notes.specs.AtomicCalls.{count_line}
use Rattle.call_notes.proofs.atomic_calls.count_line.Goals as goal

pub returns : goal.returns
unfolding count_line
returns c = c.named_note.ensures
