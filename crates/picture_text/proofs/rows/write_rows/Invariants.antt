-- those so far are written
use Rattle.std.proofs.Common.{take}
use Rattle.std.specs.List.{flat_map}
use Rattle.report_text.specs.Sink.{Takes}
use Rattle.picture_text.specs.Rows.{row_text}
use Rattle.picture_text.proofs.rows.write_rows.Given as goal

abbrev pub invariant-loop-row : goal.invariant-loop-row
invariant-loop-row g l =
    Takes g.K.Sink.written g.K.Sink.failures (flat_map (row_text l.style l.columns l.labels) (take l.row-index l.rows)) l.fn.sink l.sink
