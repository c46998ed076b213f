-- line by line, both ways
use Rattle.trace_replay.proofs.trace_lines.PlainTruth.{all_from_plain, all_to, end_from, end_to, stands_from, stands_to, true_from, true_to}
use Rattle.trace_replay.proofs.trace_lines.laws.law_plain_lines_are_true.Goals as goal

pub returns : goal.returns
returns c = record {
  stand = λ head before line. (stands_to head before line, stands_from head before line);
  are_true = λ head before line. (true_to head before line, true_from head before line);
  end = λ head all. (end_to head all, end_from head all);
  traces = λ head before all. (all_to head before all, all_from_plain head before all);
}
