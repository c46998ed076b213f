-- The table is the one of the definition.
use Rattle.call_notes.specs.SequenceCalls.{reading_line}
use Rattle.call_notes.proofs.sequence_calls.reading_line.Goals as goal

pub returns : goal.returns
unfolding reading_line
returns c = c.begun_note.ensures
