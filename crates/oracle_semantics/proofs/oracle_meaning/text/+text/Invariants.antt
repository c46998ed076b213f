-- What is still to be walked through.
use Rattle.std.proofs.Common.{◌+◌, suc}
use Rattle.litmus_syntax.specs.Views.{block_of, statement_of}
use Rattle.oracle_semantics.proofs.oracle_meaning.Work.{block_work, statement_work, turns_work}
use Rattle.oracle_semantics.proofs.oracle_meaning.text.+text.Given as goal

abbrev pub decreases-statement : goal.decreases-statement
decreases-statement l = statement_work (statement_of l.statement.now)

abbrev pub decreases-if_holds : goal.decreases-if_holds
decreases-if_holds l = suc (block_work (block_of l.body.now))

abbrev pub decreases-if_else : goal.decreases-if_else
decreases-if_else l = suc (block_work (block_of l.body.now) + block_work (block_of l.otherwise.now))

abbrev pub decreases-turns : goal.decreases-turns
decreases-turns l = turns_work l.left (block_work (block_of l.body.now))

abbrev pub decreases-block : goal.decreases-block
decreases-block l = block_work (block_of l.statements.now)
