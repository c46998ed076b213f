-- by the checks of each task's text
use Rattle.log_correctness.proofs.ChecksAndOutcomes.{all_told, all_watched}
use Rattle.log_correctness.proofs.watched.law_watched_accesses_are_unmarked_and_heard.Goals as goal

pub returns-clause-setters : goal.returns-clause-setters
returns-clause-setters c = λ run records list. all_watched run records list

pub returns-clause-finders : goal.returns-clause-finders
returns-clause-finders c = λ run records list. all_told run records list
