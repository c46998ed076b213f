-- Variable by variable.
use Rattle.print_roundtrip.proofs.printed_texts.Declarations.{declared_printed}
use Rattle.print_roundtrip.proofs.printed_texts.laws.law_printed_items_declare_their_variables.Goals as goal

pub returns : goal.returns
returns c = λ all names variables processes declared differ are.
    declared_printed variables names differ processes are declared (λ v there. there)
