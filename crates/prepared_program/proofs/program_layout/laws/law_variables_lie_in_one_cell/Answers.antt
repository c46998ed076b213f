-- By the cell of its bytes.
use Rattle.prepared_program.proofs.program_layout.InCellLemmas.{in_one_cell}
use Rattle.prepared_program.proofs.program_layout.laws.law_variables_lie_in_one_cell.Goals as goal

pub returns : goal.returns
returns c = λ variables places fit own number variable stands some. in_one_cell variables places fit own number variable stands some
