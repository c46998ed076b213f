-- What is appended is the text with the name that was looked up.
use Rattle.litmus_print.proofs.statement.append_call.Goals as goal

pub returns-in-Lock : goal.returns-in-Lock
returns-in-Lock c = rw (c.in-Lock.is, ← c.variable_of.ensures) c.append_between-in-Lock.ensures

pub returns-in-Unlock : goal.returns-in-Unlock
returns-in-Unlock c = rw (c.in-Unlock.is, ← c.variable_of-in-Unlock.ensures) c.append_between-in-Unlock.ensures

pub returns-in-AssertBits : goal.returns-in-AssertBits
returns-in-AssertBits c = rw (c.in-AssertBits.is, ← c.variable_of-name-in-AssertBits.ensures) c.append_numbered.ensures
