-- line by line
use Rattle.std.proofs.Common.{◌++◌, ◌∷◌, [], arith, refl}
use Rattle.report_text.specs.TraceText.{head_text}
use Rattle.trace_replay.specs.trace_lines.HeadReading.{head_of}
use Rattle.trace_replay.proofs.trace_lines.TrueBegins.{few_lines}
use Rattle.trace_replay.specs.Answer.{GoesOn}
use Rattle.trace_replay.proofs.FirstFailingLine.{begun, low_number, next_number, none_begins, one_line_more, refused, shorter}
use Rattle.trace_replay.proofs.pass.read_lines.Goals as goal

pub loop-next-init : goal.loop-next-init
loop-next-init c = ([], begun (head_of c.args.head) c.args.bytes.now c.requires.within c.requires.stands, c.requires.empty, c.first_number-number.ensures)

pub take_in-requires-clause-plain : goal.take_in-requires-clause-plain
take_in-requires-clause-plain c = ((c.in-Some.ensures c.in-Some.next c.in-Some.more.now).1 refl).plain

pub take_in-requires-clause-story : goal.take_in-requires-clause-story
take_in-requires-clause-story c =
    let inv = c.loop-next.invariant in
    let few = few_lines _ (head_of c.args.head) inv.0 c.loop-next.rest.now inv.1 in
    (inv.0, inv.2, omega (arith, few))

pub returns-in-Err-clause-refused : goal.returns-in-Err-clause-refused
returns-in-Err-clause-refused c =
    let inv = c.loop-next.invariant in
    refused c.law_plain_lines_stand.ensures (head_text (head_of c.args.head) ++ c.args.bytes.now) (head_of c.args.head) inv.0 c.loop-next.rest.now
    c.in-Some.next c.in-Some.more.now c.loop-next.number c.in-Err.error inv.1 c.in-Some.ensures inv.3 (c.in-Err.ensures inv.0 inv.2)

pub overflow_add-number : goal.overflow_add-number
overflow_add-number c =
    let inv = c.loop-next.invariant in
    let low = low_number _ (head_of c.args.head) inv.0 c.loop-next.rest.now c.loop-next.number inv.1 inv.3 in
    omega (arith, low)

pub loop-next-smaller : goal.loop-next-smaller
loop-next-smaller c = shorter c.loop-next.rest.now c.in-Some.next c.in-Some.more.now ((c.in-Some.ensures c.in-Some.next c.in-Some.more.now).1 refl)

pub loop-next-preserved : goal.loop-next-preserved
loop-next-preserved c =
    let inv = c.loop-next.invariant in
    let on : GoesOn (head_of c.args.head) inv.0 c.in-Some.next c.take_in.new.story = c.in_default-take_in.ensures inv.0 inv.2 in (
      inv.0 ++ c.in-Some.next ∷ [],
      one_line_more (head_text (head_of c.args.head) ++ c.args.bytes.now) (head_of c.args.head) inv.0 c.loop-next.rest.now c.in-Some.next
          c.in-Some.more.now inv.1 ((c.in-Some.ensures c.in-Some.next c.in-Some.more.now).1 refl) on.stands on.is_true,
      on.tells,
      next_number (head_of c.args.head) inv.0 c.in-Some.next c.loop-next.number inv.3,
    )

pub end-requires : goal.end-requires
end-requires c =
    let inv = c.loop-next.invariant in
    let low = low_number _ (head_of c.args.head) inv.0 c.loop-next.rest.now c.loop-next.number inv.1 inv.3 in
    omega (arith, low)

pub returns-clause-accepted : goal.returns-clause-accepted
returns-clause-accepted c =
    let inv = c.loop-next.invariant in
    c.end.ensures.accepted (head_text (head_of c.args.head) ++ c.args.bytes.now) inv.0 inv.1 inv.2 inv.3

pub returns-clause-refused : goal.returns-clause-refused
returns-clause-refused c =
    let inv = c.loop-next.invariant in
    c.end.ensures.refused (head_text (head_of c.args.head) ++ c.args.bytes.now) inv.0 inv.1 inv.2 inv.3
    (none_begins c.law_plain_lines_stand.ensures (head_text (head_of c.args.head) ++ c.args.bytes.now) (head_of c.args.head) inv.0 c.loop-next.rest.now inv.1
    c.in_default.ensures)
