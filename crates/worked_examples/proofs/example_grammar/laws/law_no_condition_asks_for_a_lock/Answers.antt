-- No proposition begins with the name of a lock, in parentheses or not.
use Rattle.worked_examples.proofs.example_grammar.RefusedOutside.{no_lock_is_asked}
use Rattle.worked_examples.proofs.example_grammar.laws.law_no_condition_asks_for_a_lock.Goals as goal

pub returns : goal.returns
returns c names depth before a rest after is = no_lock_is_asked is
