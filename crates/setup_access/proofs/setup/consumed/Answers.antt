-- The verdict is that on an untouched watch.
use Rattle.std.proofs.Common.{refl}
use Rattle.setup_access.proofs.setup.consumed.Goals as goal

pub returns-then-is_untouched-clause-untouched : goal.returns-then-is_untouched-clause-untouched
returns-then-is_untouched-clause-untouched c = λ sites untouched. (c.untouched-outcome.result, c.untouched-outcome.ensures sites, refl)
