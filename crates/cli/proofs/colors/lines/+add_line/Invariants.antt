-- The styles left are fewer.
use Rattle.std.proofs.Common.{length}
use Rattle.cli.proofs.colors.lines.+add_line.Given as goal

abbrev pub decreases-add_line : goal.decreases-add_line
decreases-add_line l = length l.styles.now
