-- the entries of the table add its rules
use Rattle.cli.specs.Tables.{with_entries}
use Rattle.cli.specs.Words.{with_options}
use Rattle.cli.proofs.program.with_options.Goals as goal

pub returns : goal.returns
unfolding with_entries with_options
returns c = λ app before. c.with_entries.ensures _ (c.with_settings-command.ensures _ before)
