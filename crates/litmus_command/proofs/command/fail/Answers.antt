-- a failure ends with one of its statuses
use Rattle.std.proofs.Common.{subst, sym}
use Rattle.litmus_command.proofs.ResultLemmas.{IsKnown, failures_are_known}
use Rattle.litmus_command.proofs.command.fail.Goals as goal

pub returns-clause-known : goal.returns-clause-known
returns-clause-known g c = subst IsKnown (sym c.status.ensures) (failures_are_known c.args.failure)
