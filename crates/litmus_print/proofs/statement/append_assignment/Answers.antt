-- What is appended is the text with the name that was looked up.
use Rattle.litmus_print.proofs.statement.append_assignment.Goals as goal

pub returns-in-AtomicIncrement : goal.returns-in-AtomicIncrement
returns-in-AtomicIncrement c = rw
    (c.in-AtomicIncrement.is, ← c.variable_of-in-AtomicIncrement.ensures)
    c.append_between-in-AtomicIncrement.ensures

pub returns-in-AtomicDecrement : goal.returns-in-AtomicDecrement
returns-in-AtomicDecrement c = rw
    (c.in-AtomicDecrement.is, ← c.variable_of-in-AtomicDecrement.ensures)
    c.append_between-in-AtomicDecrement.ensures

pub returns-in-AtomicAdd : goal.returns-in-AtomicAdd
returns-in-AtomicAdd c = rw (c.in-AtomicAdd.is, ← c.variable_of-name-in-AtomicAdd.ensures) c.append_value_first.ensures
