-- By the place of each, or where it stands with none.
use Rattle.prepared_program.proofs.program_layout.InCellLemmas.{all_aligned}
use Rattle.prepared_program.proofs.program_layout.laws.law_variables_are_aligned.Goals as goal

pub returns : goal.returns
returns c = all_aligned
