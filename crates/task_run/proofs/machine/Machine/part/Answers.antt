-- What is due, by its kind.
use Rattle.task_run.proofs.BeginLemmas.{begins_over, ends_leaving, ends_setting}
use Rattle.task_run.proofs.machine.Machine.part.Goals as goal

pub returns-in-Statement-clause-begins : goal.returns-in-Statement-clause-begins
returns-in-Statement-clause-begins c = rw c.in-Statement.is c.statement.ensures.begins

pub returns-in-Opens-clause-begins : goal.returns-in-Opens-clause-begins
returns-in-Opens-clause-begins c = rw c.in-Opens.is c.opens.ensures.begins

pub returns-in-Condition-clause-begins : goal.returns-in-Condition-clause-begins
returns-in-Condition-clause-begins c = rw c.in-Condition.is c.condition.ensures.begins

pub returns-in-Closes-clause-begins : goal.returns-in-Closes-clause-begins
returns-in-Closes-clause-begins c = rw c.in-Closes.is c.closes.ensures.begins

pub returns-in-Sets-clause-begins : goal.returns-in-Sets-clause-begins
returns-in-Sets-clause-begins c = λ s. rw c.in-Sets.is (ends_setting s c.in-Sets.register c.in-Sets.value c.args.self.now c.assign.new.self c.assign.ensures.keeps)

pub returns-in-Leaves-clause-begins : goal.returns-in-Leaves-clause-begins
returns-in-Leaves-clause-begins c = λ s. rw c.in-Leaves.is (ends_leaving s c.args.self.now)

pub returns-in-Ends-clause-begins : goal.returns-in-Ends-clause-begins
returns-in-Ends-clause-begins c = λ s. rw c.in-Ends.is (begins_over s c.args.self.now.walk c.args.self.now)

pub returns-in-Statement-clause-stops : goal.returns-in-Statement-clause-stops
returns-in-Statement-clause-stops c = rw c.in-Statement.is c.statement.ensures.stops

pub returns-in-Opens-clause-stops : goal.returns-in-Opens-clause-stops
returns-in-Opens-clause-stops c = rw c.in-Opens.is c.opens.ensures.stops

pub returns-in-Condition-clause-stops : goal.returns-in-Condition-clause-stops
returns-in-Condition-clause-stops c = rw c.in-Condition.is c.condition.ensures.stops

pub returns-in-Closes-clause-stops : goal.returns-in-Closes-clause-stops
returns-in-Closes-clause-stops c = rw c.in-Closes.is c.closes.ensures.stops
