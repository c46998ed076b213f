use Rattle.std.proofs.Common.{sym}
use Rattle.cli.proofs.kernel_config.LineLemmas.{assigned_by, assigned_elsewhere, stripped}
use Rattle.cli.proofs.kernel_config.line.assigned.Goals as goal

pub returns-in-Some : goal.returns-in-Some
returns-in-Some c =
    assigned_by c.args.name.now c.args.line.now c.in-Some.rest.now c.strip_prefix-in-Some.result
    (stripped c.args.name.now c.args.line.now c.in-Some.rest.now c.in-Some.ensures.cases) c.strip_prefix-in-Some.ensures.cases

pub returns-in-None : goal.returns-in-None
returns-in-None c = sym (assigned_elsewhere c.args.name.now c.args.line.now c.in-None.ensures.cases)
