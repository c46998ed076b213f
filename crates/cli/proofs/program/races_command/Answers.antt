-- the entries of its table add its rules
use Rattle.cli.specs.Tables.{with_entries}
use Rattle.cli.specs.Words.{races_app}
use Rattle.cli.proofs.program.races_command.Goals as goal

pub returns : goal.returns
unfolding with_entries races_app
returns c = c.with_settings.ensures _ (c.with_entries-command.ensures _ c.named.ensures)
