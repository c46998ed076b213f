-- An operation waits at an exchange alone, once it was refused.
use Rattle.std.proofs.Common.{arith}
use Rattle.std.proofs.lemmas.Bool.{le-leb, leb-true}
use Rattle.access_run.proofs.memory_operation.LeadsLemmas.{stuck_at}
use Rattle.access_run.proofs.memory_operation.run.OperationRun.stuck.Goals as goal

pub returns-then-tries-gt0 : goal.returns-then-tries-gt0
returns-then-tries-gt0 c = λ task a source operation records leads.
    let here = stuck_at task a source operation records c.args.self.now leads c.in-Exchange.change c.in-Exchange.seen c.in-Exchange.tries
    c.args.turns c.in-Exchange.is (omega arith) in (
      λ h. here.0 (c.if-tries-gt0.true, leb-true c.args.turns c.in-Exchange.tries h),
      λ h. le-leb c.args.turns c.in-Exchange.tries (here.1 h).1,
    )
