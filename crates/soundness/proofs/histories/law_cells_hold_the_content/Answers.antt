-- Record by record: an accepted exchange changes the bytes that its write lays down, and no other record changes
-- either.
use Rattle.std.proofs.Common.{[], refl}
use Rattle.soundness.proofs.Cells.{hold_at, value_at}
use Rattle.soundness.proofs.histories.law_cells_hold_the_content.Goals as goal

pub returns-clause-bytes : goal.returns-clause-bytes
returns-clause-bytes c = λ run records list later earlier is.
    let told = c.law_records_tell_their_events.ensures in
    hold_at run records list (told.first run records list) (told.each run records list) later earlier is

pub returns-clause-values : goal.returns-clause-values
returns-clause-values c = λ run records list task a source is.
    let told = c.law_records_tell_their_events.ensures in
    value_at run records list (hold_at run records list (told.first run records list) (told.each run records list) [] records refl) task a source is
