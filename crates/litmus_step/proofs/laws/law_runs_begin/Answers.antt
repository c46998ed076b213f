-- By the laws on places and on texts within the limits.
use Rattle.litmus_step.proofs.FirstLemmas.{first_can, first_list}
use Rattle.litmus_step.proofs.laws.law_runs_begin.Goals as goal

pub returns-clause-can : goal.returns-clause-can
returns-clause-can c = first_can c.law_variables_of_programs_are_placed.ensures

pub returns-clause-list : goal.returns-clause-list
returns-clause-list c = first_list c.law_texts_within_limits_are_spelled.ensures.begins
