-- The table is the one of the definition.
use Rattle.call_notes.specs.SequenceCalls.{latch_line}
use Rattle.call_notes.proofs.sequence_calls.latch_line.Goals as goal

pub returns : goal.returns
unfolding latch_line
returns c = c.begun_note.ensures
