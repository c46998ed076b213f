use Rattle.std.specs.Prelude.{codes}
use Rattle.cli.proofs.kernel_config.LineLemmas.{marked, stripped}
use Rattle.cli.proofs.kernel_config.line.is_unset.Goals as goal

pub returns-in-Some : goal.returns-in-Some
returns-in-Some c =
    marked c.args.line.now c.in-Some.rest.now c.args.name.now c.names_unset.result
    (stripped (codes "# ") c.args.line.now c.in-Some.rest.now c.in-Some.ensures.cases) c.names_unset.ensures
