-- Statement by statement.
use Rattle.print_roundtrip.proofs.printed_texts.Statements.{statements_printed}
use Rattle.print_roundtrip.proofs.printed_texts.laws.law_printed_bodies_are_spelled.Goals as goal

pub returns : goal.returns
returns c = λ parameters variables registers before after depth there counters symbols behind rest body named grown spelled nests.
    statements_printed parameters variables registers named spelled (record { keeps = grown }) depth nests rest
