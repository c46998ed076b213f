-- what was written, and what is left to write
use Rattle.std.proofs.Common.{◌≡◌, ◌++◌, ℕ, List}
use Rattle.std.specs.List.{flat_map}
use Rattle.report_text.specs.Sink.{Takes}
use Rattle.search_text.proofs.Shown.{shown}
use Rattle.search_text.specs.Write.{first_text}
use Rattle.search_text.proofs.seen.Sightings.write_firsts.Given as goal

abbrev pub invariant-loop-text : goal.invariant-loop-text
invariant-loop-text g l = (written : List ℕ)
    × (written ++ flat_map first_text (shown l.text-iterator) ≡ flat_map first_text l.fn.self)
    × Takes g.K.Sink.written g.K.Sink.failures written l.fn.sink l.sink
