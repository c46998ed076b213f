-- the line stands, is true and is kept
use Rattle.report_text.specs.Standing.{Stands}
use Rattle.trace_replay.specs.trace_lines.HeadReading.{head_of}
use Rattle.trace_replay.proofs.pass.take_in.Goals as goal

pub returns : goal.returns
returns c = λ all tells.
    let stands : Stands (head_of c.args.head) all c.args.next.now = (c.may_follow.ensures all tells).0 c.if-not-may_follow.false in
    record {
      stands = stands;
      is_true = (c.is_true.ensures all tells.knows).0 c.if-not-is_true.false;
      tells = c.in_ok-keep.ensures (head_of c.args.head) all tells stands;
    }
