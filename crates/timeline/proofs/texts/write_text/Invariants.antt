-- those so far are written
use Rattle.std.proofs.Common.{take}
use Rattle.std.specs.List.{flat_map}
use Rattle.report_text.specs.Sink.{Takes}
use Rattle.timeline.specs.Texts.{byte_text}
use Rattle.timeline.proofs.texts.write_text.Given as goal

abbrev pub invariant-loop-byte : goal.invariant-loop-byte
invariant-loop-byte g l =
    Takes g.K.Sink.written g.K.Sink.failures (flat_map (byte_text l.markup) (take l.byte-index l.text)) l.fn.sink l.sink
