-- the pieces spell the note
use Rattle.std.proofs.Common.{◌≡◌, false}
use Rattle.report_text.proofs.SinkSteps.{writes_same}
use Rattle.picture_svg.specs.Notes.{is_silent, tally_of}
use Rattle.picture_svg.proofs.notes.write_note.Goals as goal

pub returns : goal.returns
returns g c =
    let told : is_silent (tally_of c.args.watches.now c.args.stamped.now) ≡ false = cc in
    writes_same g.K.Sink.written g.K.Sink.failures _ _ _ _ _
    (rw (
      c.line_start-start.ensures,
      c.note_of-note.ensures.quiet,
      c.note_of-note.ensures.origin,
      c.note_of-note.ensures.encoding,
      c.note_of-note.ensures.same,
      c.note_of-note.ensures.masked,
      c.tally_of-tally.ensures,
      told,
    ))
    c.write_parts.ensures
