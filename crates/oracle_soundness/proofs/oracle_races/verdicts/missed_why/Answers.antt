-- One of the first three reasons is seen.
use Rattle.std.proofs.Common.{◌≡◌, ◌&&◌, ◌∙◌, Bool, not, refl, sym}
use Rattle.oracle_soundness.specs.oracle_races.Shown.{facts_among}
use Rattle.oracle_soundness.proofs.oracle_races.Reasons.{and_else, and_then, are_reasons}
use Rattle.oracle_soundness.proofs.oracle_races.verdicts.missed_why.Goals as goal
use Rattle.oracle_soundness.proofs.oracle_races.verdicts.missed_why.Goals.{else-none, else-untaken, then-none, then-untaken}

pub returns-else-none-2 : goal.returns-else-none-2
returns-else-none-2 c = λ atomic.
    let none : Bool = c.are_none-none.result in
    let taken : Bool = c.some_happens-taken.result in
    let armed : Bool = c.some_happens-armed.result in
    let untaken : c.if-none.untaken ≡ (none && not taken) = elim c.if-none.branch [
      | then-none w ↦ and_then none (not taken) _ w.if-none.true w.untaken-is
      | else-none w ↦ and_else none (not taken) _ w.if-none.false w.untaken-is
    ] in
    let never_taken : c.if-untaken.never_taken ≡ ((none && not taken) && armed) = elim c.if-untaken.branch [
      | then-untaken w ↦ and_then (none && not taken) armed _ (sym untaken ∙ w.if-untaken.true) w.never_taken-is
      | else-untaken w ↦ and_else (none && not taken) armed _ (sym untaken ∙ w.if-untaken.false) (w.never_taken-is ∙ untaken)
    ] in
    are_reasons {facts = facts_among atomic c.args.executions.now c.args.pair} c.some_happens-same_value.ensures c.some_happens-masked.ensures
    c.some_happens-origin.ensures c.are_none-none.ensures c.some_happens-taken.ensures c.some_happens-armed.ensures _ _ never_taken
    (and_else none (not armed) none c.if-none-2.false refl)
