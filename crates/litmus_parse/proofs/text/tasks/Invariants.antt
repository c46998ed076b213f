-- The tasks so far and those to come are all, and each process that is left has its body.
use Rattle.std.proofs.Common.{◌≡◌, ◌++◌, length, map}
use Rattle.std.specs.Prelude.{vec_len}
use Rattle.litmus_syntax.specs.Views as views
use Rattle.litmus_expression.specs.States.{state_of}
use Rattle.litmus_parse.specs.Seen.{seen}
use Rattle.litmus_parse.specs.Grammar.{task_of}
use Rattle.litmus_parse.specs.TextReader.{bodies_of}
use Rattle.litmus_parse.proofs.text.tasks.Given as goal

abbrev pub invariant-loop-processes : goal.invariant-loop-processes
invariant-loop-processes l = record {
  sized : length l.processes ≡ vec_len l.bodies;
  made : map views.task_of l.tasks.items ++ map task_of (seen (map state_of l.processes) (bodies_of l.bodies.items))
      ≡ map task_of (seen (map state_of l.initial.processes) (bodies_of l.initial.bodies.items));
}

abbrev pub decreases-loop-processes : goal.decreases-loop-processes
decreases-loop-processes l = length l.processes
