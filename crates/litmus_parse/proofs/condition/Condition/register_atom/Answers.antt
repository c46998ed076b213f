-- A process that isn't there has no registers.
use Rattle.std.proofs.Common.{arith}
use Rattle.std.proofs.lemmas.List.{length-map}
use Rattle.litmus_expression.specs.States.{state_of}
use Rattle.litmus_parse.specs.PropositionReader.{asked_of, asked_past}
use Rattle.litmus_parse.proofs.Registers.{no_process}
use Rattle.litmus_parse.proofs.condition.Condition.register_atom.Goals as goal

pub returns-then-number-len-clause-reads : goal.returns-then-number-len-clause-reads
returns-then-number-len-clause-reads c =
    λ memory. no_process c.args.number (asked_past (asked_of c.args.self.now c.args.operators))
    (let same = length-map c.args.self.now.processes.items state_of in omega (arith, same, c.len.ensures, c.if-number-len.true))
