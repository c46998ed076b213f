-- Each process takes a token, and what is left to read is what was to be read.
use Rattle.std.proofs.Common.{◌≡◌, ◌≤◌, map}
use Rattle.std.specs.Prelude.{vec_len}
use Rattle.litmus_syntax.specs.Limits.{tasks_limit}
use Rattle.litmus_lex.specs.Cursor.{count_left}
use Rattle.litmus_expression.specs.States.{state_of}
use Rattle.litmus_parse.specs.ItemReader.{heading_of}
use Rattle.litmus_parse.specs.ProcessReader.{processes_at, unbegun}
use Rattle.litmus_parse.specs.TextReader.{bodies_of}
use Rattle.litmus_parse.proofs.text.read_processes.Given as goal

abbrev pub invariant-loop-processes : goal.invariant-loop-processes
invariant-loop-processes l = record {
  few : vec_len l.processes ≤ tasks_limit;
  sized : vec_len l.processes ≡ vec_len l.bodies;
  reads : processes_at (unbegun (heading_of l.fn.header)) ≡ processes_at (record {
    heading = heading_of l.header;
    states = map state_of l.processes.items;
    bodies = bodies_of l.bodies.items;
  });
}

abbrev pub decreases-loop-processes : goal.decreases-loop-processes
decreases-loop-processes l = count_left l.header.cursor
