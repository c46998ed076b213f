-- the entries of its table add its rules
use Rattle.cli.specs.Tables.{with_entries}
use Rattle.cli.specs.Words.{replay_app}
use Rattle.cli.proofs.program.replay_command.Goals as goal

pub returns : goal.returns
unfolding with_entries replay_app
returns c = c.with_entries.ensures _ c.named.ensures
