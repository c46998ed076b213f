-- The most of the statements so far, and of those to come beside the scopes begun so far, is the most of all.
use Rattle.std.proofs.Common.{◌≡◌, ◌<◌, ◌+◌, ◌^◌, drop}
use Rattle.std.specs.Prelude.{max}
use Rattle.litmus_syntax.specs.Views.{block_of}
use Rattle.program_table.specs.Counts.{capped}
use Rattle.program_table.specs.Nesting.{scoped_in}
use Rattle.program_table.proofs.nesting.+scoped.Given as goal

abbrev pub invariant-scoped_in-loop-statement : goal.invariant-scoped_in-loop-statement
invariant-scoped_in-loop-statement l = record {
  few : l.begun < 2 ^ 64;
  small : l.most < 2 ^ 64;
  largest : capped (max l.most (l.begun + scoped_in (block_of (drop l.statement-index l.block)))) ≡ capped (scoped_in (block_of l.block));
}
