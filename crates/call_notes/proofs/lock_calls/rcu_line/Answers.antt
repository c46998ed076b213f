-- The table is the one of the definition.
use Rattle.call_notes.specs.LockCalls.{rcu_line}
use Rattle.call_notes.proofs.lock_calls.rcu_line.Goals as goal

pub returns : goal.returns
unfolding rcu_line
returns c = c.begun_note.ensures
