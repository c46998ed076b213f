-- where it was taken, or where its access ends
use Rattle.picture_svg.proofs.watches.watch_end.Goals as goal

pub returns-in-Some : goal.returns-in-Some
returns-in-Some c =
    rw (c.in-Some.is, c.min.ensures, c.saturating_add.ensures, c.row_top.ensures, c.rows_before-in-Some.ensures, c.max-later.ensures, c.begin.ensures, c.begin-in-Some.ensures, c.row_top-end.ensures, c.rows_before.ensures, c.end.ensures)

pub returns-in-None : goal.returns-in-None
returns-in-None c = rw (c.in-None.is, c.row_top-end.ensures, c.rows_before.ensures, c.end.ensures)
