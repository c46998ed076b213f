-- no last line, a false one, or more behind it
use Rattle.std.proofs.Common.{◌∙◌, arith, length, sym, true≢false}
use Rattle.std.proofs.lemmas.Bool.{eqb-false}
use Rattle.trace_replay.specs.trace_lines.HeadReading.{head_of}
use Rattle.trace_replay.proofs.FirstFailingLine.{at_false_end, at_no_end, past_end}
use Rattle.trace_replay.proofs.pass.end.Goals as goal

pub returns-in_default-clause-refused : goal.returns-in_default-clause-refused
returns-in_default-clause-refused c = λ bytes all begins tells is none.
    at_no_end bytes (head_of c.args.head) all c.args.rest.now c.args.number begins none c.in_default.ensures is

pub returns-then-not-may_end-clause-refused : goal.returns-then-not-may_end-clause-refused
returns-then-not-may_end-clause-refused c = λ bytes all begins tells is none.
    at_false_end bytes (head_of c.args.head) all c.args.rest.now c.in-Some.behind.now c.args.number begins c.in-Some.ensures
    (λ ends. true≢false (sym ((c.may_end.ensures all tells.knows).1 ends) ∙ c.if-not-may_end.true)) is

pub returns-then-not-is_empty-clause-refused : goal.returns-then-not-is_empty-clause-refused
returns-then-not-is_empty-clause-refused c = λ bytes all begins tells is none.
    let some = eqb-false (length c.in-Some.behind.now) 0 (sym c.is_empty.ensures ∙ c.if-not-is_empty.true) in
    past_end bytes (head_of c.args.head) all c.args.rest.now c.in-Some.behind.now c.args.number begins c.in-Some.ensures (omega arith)
    ((c.may_end.ensures all tells.knows).0 c.if-not-may_end.false) is
