-- The lines, one behind the other.
use Rattle.race_output.specs.Counts.{search_lines}
use Rattle.race_output.proofs.counts.search_lines.Goals as goal

pub returns : goal.returns
unfolding search_lines
returns c =
    c.build.ensures _ (c.text-3.ensures _ _ (c.text-2.ensures _ _ (c.text.ensures _ _ c.new.ensures c.stopped_line-bare.ensures)
    c.stopped_line-all.ensures) c.searched_line.ensures)
