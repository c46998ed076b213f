-- A state is its parts.
use Rattle.litmus_expression.proofs.Complete.{expression_read, load_is_read, pure_is_read}
use Rattle.litmus_expression.proofs.laws.law_what_is_spelled_is_read.Goals as goal

pub returns : goal.returns
returns c = record {
  expression = λ turns depth s e rest later apart differ spelled follows limit.
      expression_read s.parameters s.statements turns apart depth s.names later s.symbols rest e s.repeats differ spelled follows limit;
  without_load = λ turns depth s e rest later apart differ spelled follows limit.
      pure_is_read s.parameters s.statements turns apart depth s.names later s.symbols rest e s.repeats differ spelled follows limit;
  load = λ turns depth s l rest later apart differ spelled limit.
      load_is_read s.parameters s.statements turns apart depth s.names later s.symbols rest l s.repeats differ spelled limit;
}
