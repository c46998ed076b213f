-- as long as the longest so far
use Rattle.std.proofs.Common.{◌≡◌, ◌≤◌, fold, take}
use Rattle.picture_svg.specs.Lanes.{longer}
use Rattle.picture_svg.proofs.lanes.lane_len.Given as goal

abbrev pub invariant-loop-row : goal.invariant-loop-row
invariant-loop-row l = record {
  longest : l.len ≡ fold (longer l.labels l.picture.watches.items l.task) 0 (take l.row-index l.picture.rows.items);
  few : l.len ≤ 200;
}
