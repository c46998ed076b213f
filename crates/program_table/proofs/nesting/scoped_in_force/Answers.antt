-- No more scoped assertions are in force than may be.
use Rattle.std.proofs.Common.{arith}
use Rattle.litmus_syntax.specs.Views.{block_of}
use Rattle.program_table.proofs.NestingLemmas.{few_scoped}
use Rattle.program_table.proofs.nesting.scoped_in_force.Goals as goal

pub returns : goal.returns
returns c = omega (arith, c.scoped_in.ensures, few_scoped (block_of c.args.body.now) c.requires)
