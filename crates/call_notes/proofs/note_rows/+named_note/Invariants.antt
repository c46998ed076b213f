-- The rows left are fewer.
use Rattle.std.proofs.Common.{length}
use Rattle.call_notes.proofs.note_rows.+named_note.Given as goal

abbrev pub decreases-named_note : goal.decreases-named_note
decreases-named_note l = length l.rows.now
