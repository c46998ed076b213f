-- Each process has its places, or is still to come.
use Rattle.std.proofs.Common.{◌≡◌, ◌+◌}
use Rattle.std.specs.Prelude.{vec_len}
use Rattle.litmus_parse.proofs.text.places_of.Given as goal

abbrev pub invariant-loop-processes : goal.invariant-loop-processes
invariant-loop-processes l = vec_len l.places + vec_len l.processes ≡ vec_len l.initial.processes

abbrev pub decreases-loop-processes : goal.decreases-loop-processes
decreases-loop-processes l = vec_len l.processes
