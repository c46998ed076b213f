-- the entries of its table add its rules
use Rattle.cli.specs.Tables.{with_entries}
use Rattle.cli.specs.Words.{join_app}
use Rattle.cli.proofs.program.join_command.Goals as goal

pub returns : goal.returns
unfolding with_entries join_app
returns c = c.with_entries.ensures _ c.named.ensures
