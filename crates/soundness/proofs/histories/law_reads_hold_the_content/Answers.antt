-- A read has the value of its bytes in the word of their cell, which holds the content by then.
use Rattle.soundness.proofs.HeldReads.{reads_hold}
use Rattle.soundness.proofs.histories.law_reads_hold_the_content.Goals as goal

pub returns : goal.returns
returns c = λ run records list.
    let told = c.law_records_tell_their_events.ensures in
    reads_hold run records list (told.first run records list) (told.each run records list)
