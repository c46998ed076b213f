-- what is behind the last line
use Rattle.std.specs.Prelude.{codes}
use Rattle.report_text.specs.TraceText.{end_line}
use Rattle.trace_replay.proofs.trace_lines.HeadTexts.{behind}
use Rattle.trace_replay.proofs.trace_lines.lines.read_end.Goals as goal

pub returns : goal.returns
unfolding end_line
returns c = behind (codes "end\n") c.args.bytes.now c.past.result c.past.ensures
