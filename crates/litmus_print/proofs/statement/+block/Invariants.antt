-- The text so far and that of the statements to come are the text of all.
use Rattle.std.proofs.Common.{◌≡◌, ◌++◌, drop}
use Rattle.std.specs.String.{string_bytes}
use Rattle.litmus_syntax.specs.PrintedForm.{block_text}
use Rattle.litmus_syntax.specs.Views.{block_of}
use Rattle.litmus_print.proofs.statement.+block.Given as goal

abbrev pub invariant-append_block-loop-statement : goal.invariant-append_block-loop-statement
invariant-append_block-loop-statement l =
    string_bytes l.text ++ block_text l.scope.variables.now l.scope.registers.now l.tabs (block_of (drop l.statement-index l.block))
    ≡ string_bytes l.initial.text ++ block_text l.scope.variables.now l.scope.registers.now l.tabs (block_of l.block)
