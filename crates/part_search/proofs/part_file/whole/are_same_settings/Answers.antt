-- The test decides it.
use Rattle.std.proofs.lemmas.Bool.Decides.{Decides-at}
use Rattle.part_search.proofs.part_file.SameSettings.{same_settings}
use Rattle.part_search.proofs.part_file.whole.are_same_settings.Goals as goal

pub returns : goal.returns
returns c = Decides-at c.eq.result _ c.eq.ensures (same_settings c.args.one c.args.other)
