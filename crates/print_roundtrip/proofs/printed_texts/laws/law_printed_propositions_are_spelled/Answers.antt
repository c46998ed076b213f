-- Operator by operator.
use Rattle.print_roundtrip.proofs.printed_texts.Propositions.{proposition_printed}
use Rattle.print_roundtrip.proofs.printed_texts.laws.law_printed_propositions_are_spelled.Goals as goal

pub returns : goal.returns
returns c = λ mentions said names variables before later last depth there symbols behind rest proposition is_known spelled covers nests.
    proposition_printed mentions said names variables last is_known spelled covers depth nests rest
