use Rattle.std.specs.Prelude.{codes}
use Rattle.cli.proofs.kernel_config.LineLemmas.{stripped, tail_tested}
use Rattle.cli.proofs.kernel_config.line.names_unset.Goals as goal

pub returns-in-Some : goal.returns-in-Some
returns-in-Some c =
    tail_tested c.args.name.now c.args.text.now c.in-Some.rest.now (codes " is not set") c.eq.result
    (stripped c.args.name.now c.args.text.now c.in-Some.rest.now c.in-Some.ensures.cases) c.eq.ensures
