-- what is left of the value after some divisions by 256
use Rattle.std.proofs.Common.{◌≡◌, ◌/◌, ◌^◌}
use Rattle.oracle_soundness.proofs.oracle_definitions.content.byte_of_value.Given as goal

abbrev pub invariant-loop : goal.invariant-loop
invariant-loop l = l.rest ≡ l.value / 256 ^ l.counter
