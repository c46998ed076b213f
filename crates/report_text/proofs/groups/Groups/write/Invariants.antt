-- what was written, and what is left to write
use Rattle.std.proofs.Common.{◌≡◌, ◌++◌, ℕ, List, map}
use Rattle.std.specs.List.{flat_map}
use Rattle.report_text.specs.Groups.{group_text}
use Rattle.report_text.specs.Sink.{Takes}
use Rattle.report_text.proofs.groups.Groups.write.Given as goal

abbrev pub invariant-loop-text : goal.invariant-loop-text
invariant-loop-text g l = (written : List ℕ)
    × (written ++ flat_map group_text (map (λ entry. (entry.0.items, entry.1)) l.text-iterator) ≡ flat_map group_text l.fn.self)
    × Takes g.K.Sink.written g.K.Sink.failures written l.fn.sink l.sink
