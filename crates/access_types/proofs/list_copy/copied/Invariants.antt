-- What was gone over is copied.
use Rattle.std.proofs.Common.{◌≡◌, take, vec_capacity}
use Rattle.access_types.proofs.list_copy.copied.Given as goal

abbrev pub invariant-loop-element : goal.invariant-loop-element
invariant-loop-element g l = record {
  items : l.copy.items ≡ take l.element-index l.list.items;
  room : vec_capacity l.copy ≡ vec_capacity l.list;
}
