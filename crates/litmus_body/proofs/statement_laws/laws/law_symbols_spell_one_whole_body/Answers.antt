-- Each of the two is what is read.
use Rattle.litmus_body.proofs.statement_laws.Whole.{one_body}
use Rattle.litmus_body.proofs.statement_laws.laws.law_symbols_spell_one_whole_body.Goals as goal

pub returns : goal.returns
returns c = λ parameters inside rest_one rest_two one two registers_one registers_two apart.
    one_body parameters apart inside rest_one rest_two one two registers_one registers_two
