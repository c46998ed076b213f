-- By the sign before a number, and by the word before a value.
use Rattle.litmus_parse.proofs.Values.{signed_read, signed_spelled, value_read, value_spelled}
use Rattle.litmus_parse.proofs.declaration_laws.law_values_are_read_as_they_are_spelled.Goals as goal

pub returns : goal.returns
returns c = record {
  signed = λ symbols rest value. ((λ spelled. signed_read spelled), (λ e. signed_spelled symbols (value, rest) e));
  initial = λ symbols rest value. ((λ spelled. value_read spelled), (λ e. value_spelled symbols (value, rest) e));
}
