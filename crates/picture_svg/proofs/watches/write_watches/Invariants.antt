-- those so far are written
use Rattle.std.proofs.Common.{take}
use Rattle.std.specs.List.{flat_map}
use Rattle.report_text.specs.Sink.{Takes}
use Rattle.picture_svg.specs.Watches.{watch_text}
use Rattle.picture_svg.proofs.watches.write_watches.Given as goal

abbrev pub invariant-loop-watch : goal.invariant-loop-watch
invariant-loop-watch g l =
    Takes g.K.Sink.written g.K.Sink.failures (flat_map (watch_text l.lanes l.rows) (take l.watch-index l.watches)) l.fn.sink l.sink
