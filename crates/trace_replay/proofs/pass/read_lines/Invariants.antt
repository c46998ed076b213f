-- the lines so far are true, and the story is of them
use Rattle.std.proofs.Common.{◌≡◌, ◌++◌, List, length}
use Rattle.report_text.specs.Faults.{BeginsTruly, next_line}
use Rattle.report_text.specs.TraceText.{head_text}
use Rattle.report_text.specs.declared.line.Line.{Line}
use Rattle.trace_replay.specs.trace_lines.HeadReading.{head_of}
use Rattle.trace_replay.specs.Story.{IsStoryOf}
use Rattle.trace_replay.proofs.pass.read_lines.Given as goal

abbrev pub invariant-loop-next : goal.invariant-loop-next
invariant-loop-next l = (all : List Line)
    × BeginsTruly (head_text (head_of l.fn.head) ++ l.fn.bytes) (head_of l.fn.head) all l.rest
    × IsStoryOf all l.story
    × (l.number ≡ next_line (head_of l.fn.head) all)

abbrev pub decreases-loop-next : goal.decreases-loop-next
decreases-loop-next l = length l.rest
