-- The rows left are fewer.
use Rattle.std.proofs.Common.{length}
use Rattle.call_notes.proofs.note_rows.+begun_note.Given as goal

abbrev pub decreases-begun_note : goal.decreases-begun_note
decreases-begun_note l = length l.rows.now
