-- Those of earlier tasks are added.
use Rattle.std.proofs.Common.{◌≡◌, ◌≤◌, ◌*◌, sum, take}
use Rattle.litmus_step.proofs.first.all_accesses.Given as goal

abbrev pub invariant-loop-one : goal.invariant-loop-one
invariant-loop-one l = record {
  added : l.all ≡ sum (take l.one-index l.accesses);
  few : l.all ≤ 1024 * l.one-index;
}
