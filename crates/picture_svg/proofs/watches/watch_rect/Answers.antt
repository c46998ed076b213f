-- as long as from one to the other
use Rattle.picture_svg.proofs.watches.watch_rect.Goals as goal

pub returns : goal.returns
returns c = rw c.saturating_sub.ensures
