-- the entries of the table add its rules
use Rattle.cli.specs.Tables.{with_entries}
use Rattle.cli.specs.Words.{with_settings}
use Rattle.cli.proofs.program.with_settings.Goals as goal

pub returns : goal.returns
unfolding with_entries with_settings
returns c = λ app before. c.with_entries.ensures _ before
