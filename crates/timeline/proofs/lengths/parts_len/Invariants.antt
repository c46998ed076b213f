-- as long as those so far
use Rattle.std.proofs.Common.{◌≡◌, take}
use Rattle.report_text.specs.Pieces.{text_of_parts}
use Rattle.timeline.specs.Lengths.{len_of}
use Rattle.timeline.proofs.lengths.parts_len.Given as goal

abbrev pub invariant-loop-part : goal.invariant-loop-part
invariant-loop-part l = l.len ≡ len_of (text_of_parts (take l.part-index l.parts))
