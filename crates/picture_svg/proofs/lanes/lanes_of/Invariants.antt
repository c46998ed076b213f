-- the lanes so far stand one behind the other
use Rattle.std.proofs.Common.{◌≡◌, ◌+◌, ◌*◌, ◌≤◌, length, map, take}
use Rattle.std.specs.Prelude.{sum}
use Rattle.timeline.specs.picture.Columns.{tasks}
use Rattle.picture_svg.specs.Lanes.{starts_from, width_of}
use Rattle.picture_svg.proofs.lanes.lanes_of.Given as goal

abbrev pub invariant-loop-index : goal.invariant-loop-index
invariant-loop-index l = record {
  long : length l.starts ≡ 16;
  behind : l.width ≡ 1 + sum (take l.index (map (width_of l.picture l.labels) tasks));
  small : l.width ≤ 1 + 74 * l.index;
  begun : take l.index l.starts ≡ take l.index (starts_from 1 (map (width_of l.picture l.labels) tasks));
}
