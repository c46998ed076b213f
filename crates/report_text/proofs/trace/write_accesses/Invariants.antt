-- the lines so far are written
use Rattle.std.proofs.Common.{take}
use Rattle.std.specs.List.{flat_map}
use Rattle.report_text.specs.Line.{spell_access}
use Rattle.report_text.specs.Sink.{Takes}
use Rattle.report_text.proofs.trace.write_accesses.Given as goal

abbrev pub invariant-loop-stamped : goal.invariant-loop-stamped
invariant-loop-stamped g l =
    Takes g.K.Sink.written g.K.Sink.failures (flat_map spell_access (take l.stamped-index l.accesses)) l.fn.sink l.sink
