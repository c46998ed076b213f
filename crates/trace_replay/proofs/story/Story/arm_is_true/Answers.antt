-- by the access that was found
use Rattle.std.proofs.Common.{◌∙◌, sym, subst, true≢false}
use Rattle.report_text.specs.Standing.{accesses_of}
use Rattle.report_text.specs.Truth.{MayWatch}
use Rattle.trace_replay.proofs.Naming.{Finds, arm_of, none_named}
use Rattle.trace_replay.proofs.story.Story.arm_is_true.Goals as goal

pub returns-in_default : goal.returns-in_default
returns-in_default c = λ all knows.
    let finds : Finds c.named.result all c.args.arm.now.setter =
    subst (Finds c.named.result all) c.setter.ensures (c.named.ensures (accesses_of all) knows.accesses) in (
      λ t. absurd (true≢false (sym t)),
      λ is. absurd (none_named c.named.result all c.args.arm.now.setter finds c.in_default.is (is.0, is.1)),
    )

pub returns-then-may_watch : goal.returns-then-may_watch
returns-then-may_watch c = λ all knows.
    let finds : Finds c.named.result all c.args.arm.now.setter =
    subst (Finds c.named.result all) c.setter.ensures (c.named.ensures (accesses_of all) knows.accesses) in
    let arm = arm_of c.named.result c.args.shape.slots c.args.shape.layout all c.args.arm.now c.in-Some.setter finds c.in-Some.is in
    let may : MayWatch c.args.shape.slots c.args.shape.layout c.in-Some.setter c.args.arm.now.number c.args.arm.now.index c.args.arm.now.watch_word =
    rw (c.number.ensures, c.index.ensures, c.watch_word.ensures) at (c.may_watch.ensures.0 c.if-may_watch.true) in (
      λ t. arm.0 (may, (c.outcome_is_true.ensures all knows).0 t),
      λ is. (c.outcome_is_true.ensures all knows).1 (arm.1 is).1,
    )

pub returns-else-may_watch : goal.returns-else-may_watch
returns-else-may_watch c = λ all knows.
    let finds : Finds c.named.result all c.args.arm.now.setter =
    subst (Finds c.named.result all) c.setter.ensures (c.named.ensures (accesses_of all) knows.accesses) in
    let arm = arm_of c.named.result c.args.shape.slots c.args.shape.layout all c.args.arm.now c.in-Some.setter finds c.in-Some.is in (
      λ t. absurd (true≢false (sym t ∙ c.if-may_watch.false)),
      λ is. c.may_watch.ensures.1 (rw (c.number.ensures, c.index.ensures, c.watch_word.ensures) (arm.1 is).0),
    )
