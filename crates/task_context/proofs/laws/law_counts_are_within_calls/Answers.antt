-- a surplus is at most the number of marks that raise it
use Rattle.access_types.specs.Marked.{is_disable, is_enable, is_nest_close, is_nest_open, marks_of}
use Rattle.task_context.proofs.Surpluses.{surplus-le}
use Rattle.task_context.proofs.laws.law_counts_are_within_calls.Goals as goal

pub returns : goal.returns
returns c = λ plain_writes_atomic task moments context h. record {
  disabled =
      surplus-le is_disable is_enable (marks_of task moments) context.disable_count h.disabled;
  nested =
      surplus-le is_nest_open is_nest_close (marks_of task moments) context.nest_count h.nested;
}
