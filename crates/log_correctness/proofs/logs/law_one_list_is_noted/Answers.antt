-- What is said of a record holds of one thing only.
use Rattle.slot_table.specs.Records.{records_of}
use Rattle.log_correctness.proofs.NotedOnce.{one_list}
use Rattle.log_correctness.proofs.logs.law_one_list_is_noted.Goals as goal

pub returns-clause-own : goal.returns-clause-own
returns-clause-own c = λ s registers body records own one other written first second. one_list written own one other first second

pub returns-clause-list : goal.returns-clause-list
returns-clause-list c = λ run records list task one other first second. one_list (list.tasks task) (records_of task records) one other first second
