-- the entries of its table add its rules
use Rattle.cli.specs.Tables.{with_entries}
use Rattle.cli.specs.Words.{step_app}
use Rattle.cli.proofs.program.step_command.Goals as goal

pub returns : goal.returns
unfolding with_entries step_app
returns c = c.with_options.ensures _ (c.with_entries-command.ensures _ c.named.ensures)
