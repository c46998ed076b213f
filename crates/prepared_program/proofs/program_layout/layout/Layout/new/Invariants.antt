-- What is laid out so far, and the variables to come, are all; and there is room for these.
use Rattle.std.proofs.Common.{◌≡◌, ◌≤◌, ◌++◌, drop, length, vec_capacity, vec_len}
use Rattle.litmus_semantics.specs.Layout.{initial_values}
use Rattle.prepared_program.specs.program_layout.Places.{places_of}
use Rattle.prepared_program.proofs.program_layout.layout.Layout.new.Given as goal

abbrev pub invariant-loop-number : goal.invariant-loop-number
invariant-loop-number l = record {
  room : length l.variables ≤ vec_capacity l.laid;
  made : vec_len l.laid ≡ l.number;
  laid : l.laid.items ++ initial_values (places_of l.places) l.number (drop l.number l.variables)
      ≡ initial_values (places_of l.places) 0 l.variables;
}
