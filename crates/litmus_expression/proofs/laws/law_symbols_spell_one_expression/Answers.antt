-- Each of the two is what the reader reads.
use Rattle.litmus_expression.proofs.Complete.{one_reading}
use Rattle.litmus_expression.proofs.laws.law_symbols_spell_one_expression.Goals as goal

pub returns : goal.returns
returns c parameters depth before after_one after_two symbols rest_one rest_two one two apart differ spelled_one follows_one spelled_two follows_two =
    one_reading parameters apart depth before after_one after_two symbols rest_one rest_two one two differ spelled_one follows_one spelled_two follows_two
