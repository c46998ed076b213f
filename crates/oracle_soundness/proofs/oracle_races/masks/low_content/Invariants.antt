-- the loop goes down, and has read the bytes from `offset` on
use Rattle.std.proofs.Common.{◌≡◌, ◌+◌, ◌-◌, ◌%◌, ◌^◌, take}
use Rattle.access_types.specs.History.{after_moments, value_from}
use Rattle.oracle_soundness.proofs.oracle_races.masks.low_content.Given as goal

-- the lowest 64 bits of these
abbrev pub invariant-loop-offset : goal.invariant-loop-offset
invariant-loop-offset l =
    l.value ≡ value_from (after_moments (λ _. 0) (take l.k l.history)) (l.access.addr + l.offset)
    (l.access.size - l.offset) % 2 ^ 64
