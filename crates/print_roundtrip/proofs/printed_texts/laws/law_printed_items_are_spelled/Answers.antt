-- Variable by variable.
use Rattle.print_roundtrip.proofs.printed_texts.Items.{items_printed, numbers_printed}
use Rattle.print_roundtrip.proofs.printed_texts.laws.law_printed_items_are_spelled.Goals as goal

pub returns : goal.returns
returns c = λ all names variables rest declared differ few. (items_printed variables rest, numbers_printed declared differ few)
