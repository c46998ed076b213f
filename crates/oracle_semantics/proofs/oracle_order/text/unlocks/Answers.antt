-- A lock that the task has is given back by a store, and another makes no step.
use Rattle.std.proofs.Common.{◌≡◌, ◌∷◌, [], ◌∙◌, ℕ, Bool, List, ap, false, subst, sym, true}
use Rattle.access_types.specs.declared.history.Happening.TheVariants as happenings
use Rattle.litmus_semantics.specs.Task as meaning
use Rattle.litmus_semantics.specs.Task.{Progress, has_lock}
use Rattle.oracle_semantics.proofs.oracle_order.OrderLemmas.{held, not_held}
use Rattle.oracle_semantics.specs.oracle_order.Walks.{stands}
use Rattle.setup_access.specs.Records.{MakesDone}
use Rattle.slot_table.specs.declared.records.Record.{Record}
use Rattle.slot_table.specs.declared.step.Step.TheVariants.{LockStore}
use Rattle.program_order.specs.Standing.{coming, counting, doing, lock_number}
use Rattle.oracle_semantics.proofs.oracle_order.text.unlocks.Goals as goal

pub returns : goal.returns
returns c = λ s site is standing same.
    let has : has_lock c.args.variable standing.progress.did ≡ false
    = ap (λ (p : Progress). has_lock c.args.variable p.did) same
    ∙ (ap (λ (n : ℕ). has_lock n c.args.before.did.items) (sym c.in_ok-lock.ensures) ∙ (sym c.has_lock.ensures ∙ c.if-has_lock.false)) in
    (coming (counting true standing) c.args.before.left.items standing.progress, not_held s site c.args.variable standing c.args.before.left.items has, same)

pub returns-then-has_lock : goal.returns-then-has_lock
returns-then-has_lock c = λ s site is standing same.
    let has : has_lock c.args.variable standing.progress.did ≡ true
    = ap (λ (p : Progress). has_lock c.args.variable p.did) same
    ∙ (ap (λ (n : ℕ). has_lock n c.args.before.did.items) (sym c.in_ok-lock.ensures) ∙ (sym c.has_lock.ensures ∙ c.if-has_lock.true)) in
    let by_task = subst (λ (n : ℕ). MakesDone n (LockStore c.lock_number.result) (λ later. c.in_ok-given_back.given_back.left.items ≡ later) c.args.before.left.items)
    (sym is.0) c.in_ok-given_back.ensures.gives in
    let by_number = subst (λ (n : ℕ). MakesDone s.text.task (LockStore n) (λ later. c.in_ok-given_back.given_back.left.items ≡ later) c.args.before.left.items)
    (c.lock_number.ensures s is) by_task in
    let made = subst (λ (xs : List Record). MakesDone s.text.task (LockStore (lock_number s c.args.variable)) (λ later. xs ≡ later) c.args.before.left.items)
    (sym c.in_ok-after.ensures.left) by_number in
    let unlock = happenings.Unlock c.args.variable ∷ [] in (
      doing standing c.in_ok-after.after.left.items unlock,
      held s site c.args.variable standing c.args.before.left.items c.in_ok-after.after.left.items has made,
      ap (λ (p : Progress). meaning.doing p unlock) (same ∙ sym c.in_ok-given_back.ensures.stays)
          ∙ (ap (λ (n : ℕ). meaning.doing (stands c.in_ok-given_back.given_back) (happenings.Unlock n ∷ [])) (sym c.in_ok-lock.ensures) ∙ sym c.in_ok-after.ensures.comes),
    )
