-- By what each part of a text names.
use Rattle.executions.proofs.observation_determinism.StepNames.{all_named}
use Rattle.executions.proofs.observation_determinism.laws.law_steps_name_words_of_the_run.Goals as goal

pub returns : goal.returns
returns c = all_named c.law_words_are_above_one.ensures
