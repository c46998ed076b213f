-- by the kinds of lines
use Rattle.trace_replay.proofs.trace_lines.PlainForms.{form}
use Rattle.trace_replay.proofs.trace_lines.laws.law_plain_lines_stand.Goals as goal

pub returns : goal.returns
returns c = form
