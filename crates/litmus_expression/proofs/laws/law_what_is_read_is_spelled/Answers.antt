-- The readers that are as deep as they have to be are sound, as those of any depth.
use Rattle.litmus_expression.proofs.Sound.{expression_spelled, load_spelled, pure_spelled}
use Rattle.litmus_expression.proofs.laws.law_what_is_read_is_spelled.Goals as goal

pub returns : goal.returns
returns c = record { expression = expression_spelled; without_load = pure_spelled; load = load_spelled }
