-- what is left decides for all
use Rattle.std.proofs.Common.{◌≡◌, ◌↔◌, All}
use Rattle.trace_replay.specs.Counts.{count_at}
use Rattle.trace_replay.proofs.counts.Counts.stand_in.Given as goal

abbrev pub invariant-loop-key : goal.invariant-loop-key
invariant-loop-key g l =
    All (λ entry. entry.1 ≡ count_at g.K.PartialEq.eq l.fn.others entry.0) l.fn.self.by_key.entries
    ↔ All (λ entry. entry.1 ≡ count_at g.K.PartialEq.eq l.fn.others entry.0) l.key-iterator
