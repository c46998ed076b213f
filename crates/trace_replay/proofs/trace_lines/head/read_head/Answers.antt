-- a version that is read stands there, and what isn't read doesn't
use Rattle.std.proofs.Common.{◌∙◌, ◌++◌, ap, append_assoc, refl, sym}
use Rattle.std.specs.Prelude.{codes}
use Rattle.report_text.specs.TraceText.{first_version, second_version, shape_line}
use Rattle.trace_replay.specs.trace_lines.HeadReading.{no_shape, no_version}
use Rattle.trace_replay.proofs.trace_lines.HeadTexts.{nowhere}
use Rattle.trace_replay.proofs.trace_lines.Words.{past_is}
use Rattle.trace_replay.proofs.trace_lines.head.read_head.Goals as goal

pub returns-in-Some-clause-head : goal.returns-in-Some-clause-head
unfolding first_version
returns-in-Some-clause-head c = record {
  stands = tt;
  spelled = past_is (codes "KCSAN-TRACE 1\n") c.args.bytes.now c.in-Some.rest.now (sym c.in-Some.ensures);
}

pub returns-in_default-past-clause-fails : goal.returns-in_default-past-clause-fails
unfolding first_version second_version
returns-in_default-past-clause-fails c = no_version
    (nowhere (codes "KCSAN-TRACE 1\n") c.args.bytes.now c.in_default.ensures)
    (nowhere (codes "KCSAN-TRACE 2\n") c.args.bytes.now c.in_default-past.ensures) refl

pub returns-in-Some-read_shape-clause-head : goal.returns-in-Some-read_shape-clause-head
unfolding second_version
returns-in-Some-read_shape-clause-head c =
    let shape = c.in-Some-read_shape.shape in
    let rest = c.in-Some-read_shape.rest.now in
    let is = (c.in-Some-read_shape.ensures shape rest).1 refl in
    record {
      stands = is.slots;
      spelled = past_is (codes "KCSAN-TRACE 2\n") c.args.bytes.now c.in-Some-past.rest.now (sym c.in-Some-past.ensures)
          ∙ ap (λ xs. codes "KCSAN-TRACE 2\n" ++ xs) is.spelled
          ∙ sym (append_assoc (codes "KCSAN-TRACE 2\n") (shape_line shape.slots shape.layout) rest);
    }

pub returns-in-None-clause-fails : goal.returns-in-None-clause-fails
unfolding second_version
returns-in-None-clause-fails c = no_shape c.in-Some-past.rest.now
    (past_is (codes "KCSAN-TRACE 2\n") c.args.bytes.now c.in-Some-past.rest.now (sym c.in-Some-past.ensures))
    (λ begins.
    let e = (c.in-None.ensures (record { slots = begins.0; layout = begins.1 }) begins.3.0).0
    (record { slots = begins.2; spelled = begins.3.1 }) in
    absurd cc)
    refl
