-- The two loads of the watch answer the word of the cell, which holds the content at both points.
use Rattle.std.proofs.Common.{refl}
use Rattle.soundness.proofs.Origins.{in_watch, names_change}
use Rattle.soundness.proofs.histories.law_unknown_origins_changed.Goals as goal

pub returns-clause-changed : goal.returns-clause-changed
returns-clause-changed c = λ run records list place other below.
    in_watch list _ _ (names_change run records list (c.law_cells_hold_the_content.ensures.bytes run records list) _ _ refl
    (c.law_verdicts_are_on_watches.ensures run records list place other below))

pub returns-clause-watched : goal.returns-clause-watched
returns-clause-watched c = λ run records list place other below.
    names_change run records list (c.law_cells_hold_the_content.ensures.bytes run records list) _ _ refl
    (c.law_verdicts_are_on_watches.ensures run records list place other below)
