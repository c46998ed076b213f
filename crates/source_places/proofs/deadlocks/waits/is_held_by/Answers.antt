-- By the lock's word.
use Rattle.std.proofs.Common.{◌≡◌, ◌↔◌, ◌∙◌, IsTrue, ap, subst}
use Rattle.slot_table.specs.StepLine.{step_line}
use Rattle.slot_table.specs.Words.{Words, but_clock}
use Rattle.slot_table.specs.declared.step.Step.TheVariants.{LockStore, LockTry}
use Rattle.source_places.proofs.deadlocks.WordLemmas.{held_word}
use Rattle.source_places.proofs.deadlocks.waits.is_held_by.Goals as goal

pub returns : goal.returns
returns c =
    let words = c.args.board.now in
    let lock = c.args.lock in
    let task = c.args.task in
    let after : c.step-taken.new.self ≡ (step_line (step_line words (LockStore lock)).after (LockTry lock task)).after =
    c.step-taken.ensures.after ∙ ap (λ (w : Words). (step_line w (LockTry lock task)).after)
    (c.step-freed.ensures.after ∙ ap (λ (w : Words). (step_line w (LockStore lock)).after) c.in_ok-other.ensures) in
    let same = subst (λ (w : Words). IsTrue c.holds_as.result ↔ (but_clock words ≡ but_clock w)) after c.holds_as.ensures in
    let held = held_word words lock task c.requires in
    (λ is. held.0 (same.0 is), λ is. same.1 (held.1 is))
