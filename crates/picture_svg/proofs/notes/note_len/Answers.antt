-- the entries are the note
use Rattle.picture_svg.proofs.notes.note_len.Goals as goal

pub returns : goal.returns
returns c = rw (
  c.parts_len.ensures,
  c.note_of-note.ensures.quiet,
  c.note_of-note.ensures.origin,
  c.note_of-note.ensures.encoding,
  c.note_of-note.ensures.same,
  c.note_of-note.ensures.masked,
  c.tally_of.ensures,
)
