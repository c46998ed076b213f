-- what is spelled is read, and what is read is spelled so
use Rattle.std.proofs.Common.{◌∙◌, ap, sym}
use Rattle.trace_replay.specs.trace_lines.HeadReading.{shape_at}
use Rattle.trace_replay.proofs.trace_lines.HeadTexts.{shape_spelled, shape_there}
use Rattle.trace_replay.proofs.trace_lines.head.read_shape.Goals as goal

pub returns : goal.returns
returns c = λ shape rest. (
  λ is. c.shape_line.ensures ∙ ap shape_at is.spelled ∙ shape_there shape rest is.slots,
  λ e. shape_spelled c.args.bytes.now (shape, rest) (sym c.shape_line.ensures ∙ e),
)
