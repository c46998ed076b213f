-- what is spelled is read, and what is read is spelled so
use Rattle.std.proofs.Common.{◌∙◌, ap, sym}
use Rattle.trace_replay.specs.trace_lines.LineReaders.{line_at}
use Rattle.trace_replay.proofs.trace_lines.LineTexts.{line_spelled, line_there}
use Rattle.trace_replay.proofs.trace_lines.lines.read_line.Goals as goal

pub returns : goal.returns
returns c = λ line rest. (
  λ is. c.line.ensures ∙ ap line_at is.spelled ∙ line_there line rest is.plain,
  λ e. line_spelled c.args.bytes.now (line, rest) (sym c.line.ensures ∙ e),
)
