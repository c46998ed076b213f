-- what stands before `at` is written, and no write has failed
use Rattle.std.proofs.Common.{◌≤◌, ◌-◌, length, take}
use Rattle.report_text.specs.Sink.{Takes}
use Rattle.report_text.proofs.sink.write_all.Given as goal

abbrev pub invariant-loop-at : goal.invariant-loop-at
invariant-loop-at g l =
    (l.at ≤ length l.text)
    × Takes g.K.Sink.written g.K.Sink.failures (take l.at l.text) l.fn.sink l.sink

abbrev pub decreases-loop-at : goal.decreases-loop-at
decreases-loop-at g l = length l.text - l.at
