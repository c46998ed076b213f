-- The lines so far, and those of the registers to come, are all.
use Rattle.std.proofs.Common.{◌≡◌, ◌++◌, drop}
use Rattle.litmus_syntax.specs.Views.{block_of, proposition_of}
use Rattle.check_warnings.specs.Warnings.{registers_from}
use Rattle.check_warnings.proofs.warnings.registers_lines.Given as goal

abbrev pub invariant-loop-number : goal.invariant-loop-number
invariant-loop-number l =
    l.lines.items
    ++ registers_from l.file l.program.variables (proposition_of l.program.condition) l.task (block_of l.body) l.number (drop l.number l.registers)
    ≡ registers_from l.file l.program.variables (proposition_of l.program.condition) l.task (block_of l.body) 0 l.registers
