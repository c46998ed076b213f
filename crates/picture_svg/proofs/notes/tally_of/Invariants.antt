-- those so far are counted
use Rattle.std.proofs.Common.{◌≡◌, fold, take}
use Rattle.picture_svg.specs.Notes.{none, with_watch}
use Rattle.picture_svg.proofs.notes.tally_of.Given as goal

abbrev pub invariant-loop-watch : goal.invariant-loop-watch
invariant-loop-watch l = l.tally ≡ fold (with_watch l.setter) none (take l.watch-index l.watches)
