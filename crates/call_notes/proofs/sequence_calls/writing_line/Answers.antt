-- The table is the one of the definition.
use Rattle.call_notes.specs.SequenceCalls.{writing_line}
use Rattle.call_notes.proofs.sequence_calls.writing_line.Goals as goal

pub returns : goal.returns
unfolding writing_line
returns c = c.begun_note.ensures
