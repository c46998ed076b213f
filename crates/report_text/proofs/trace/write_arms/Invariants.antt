-- the lines so far are written
use Rattle.std.proofs.Common.{take}
use Rattle.std.specs.List.{flat_map}
use Rattle.report_text.specs.Line.{spell_arm}
use Rattle.report_text.specs.Sink.{Takes}
use Rattle.report_text.proofs.trace.write_arms.Given as goal

abbrev pub invariant-loop-arm : goal.invariant-loop-arm
invariant-loop-arm g l =
    Takes g.K.Sink.written g.K.Sink.failures (flat_map spell_arm (take l.arm-index l.arms)) l.fn.sink l.sink
