-- So it is of each so far, and there is room for the rest.
use Rattle.std.proofs.Common.{◌≡◌, ◌≤◌, All, Err, vec_capacity, vec_len}
use Rattle.run_stats.proofs.made.all_err.Given as goal

abbrev pub invariant-loop : goal.invariant-loop
invariant-loop l = record {
  made : vec_len l.all ≡ l.counter;
  room : l.many ≤ vec_capacity l.all;
  each : All (λ outcome. outcome ≡ Err l.error) l.all.items;
}
