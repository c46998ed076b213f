-- The assignment is of an expression without a load to a register.
use Rattle.oracle_semantics.proofs.oracle_order.text.assigns.Goals as goal

pub returns-in-Pure : goal.returns-in-Pure
returns-in-Pure c = λ s site. rw (c.in-Register.is, c.in-Pure.is, c.if-data_race.false) (c.sets.ensures s site)
