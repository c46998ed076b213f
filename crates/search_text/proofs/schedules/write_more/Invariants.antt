-- the entries so far are written
use Rattle.std.proofs.Common.{take}
use Rattle.std.specs.List.{flat_map}
use Rattle.report_text.specs.Sink.{Takes}
use Rattle.search_text.specs.Schedules.{later_text}
use Rattle.search_text.proofs.schedules.write_more.Given as goal

abbrev pub invariant-loop-entry : goal.invariant-loop-entry
invariant-loop-entry g l =
    Takes g.K.Sink.written g.K.Sink.failures (flat_map later_text (take l.entry-index l.entries)) l.fn.sink l.sink
