-- the loop goes down, and has read the bytes from `offset` on
use Rattle.std.proofs.Common.{◌≡◌, ◌+◌, ◌-◌, take}
use Rattle.access_types.specs.History.{after_moments, value_from}
use Rattle.oracle_soundness.proofs.oracle_definitions.content.content_after.Given as goal

-- the bytes from `offset` on are read
abbrev pub invariant-loop-offset : goal.invariant-loop-offset
invariant-loop-offset l =
    l.value ≡ value_from (after_moments (λ _. 0) (take l.k l.history)) (l.bytes.addr + l.offset)
    (l.bytes.size - l.offset)
