-- The value has the findings of the part, and the part is read of it.
use Rattle.part_search.proofs.part_file.Back.{part_back}
use Rattle.part_search.specs.part_file.Views.{part_view}
use Rattle.part_search.proofs.part_file.values.part_value.Goals as goal

pub returns : goal.returns
returns c = (c.in_ok-value.ensures c.in_ok-found.ensures.0, part_back (part_view c.args.part.now) c.in_ok-found.ensures.1)
