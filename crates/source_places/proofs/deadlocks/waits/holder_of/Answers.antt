-- By the tasks of the world.
use Rattle.std.proofs.Common.{◌≡◌, ◌<◌, ◌^◌, ◌+◌, ◌∙◌, ℕ, Err, Ok, Result, Some, slice_get, subst, sym}
use Rattle.std.proofs.lemmas.Result.{IfOk-weaker}
use Rattle.std.specs.Result.{OkIff, result_unwrap_or}
use Rattle.source_places.proofs.deadlocks.waits.holder_of.Goals as goal
use Rattle.litmus_step.specs.Steps.{tasks_in}
use Rattle.slot_table.specs.Words.{Words}

converted : {E : Type 0} (number limit : ℕ) (found : Result ℕ E) → OkIff found (number < limit) number → number < limit
    → result_unwrap_or found 0 ≡ number
converted number limit (Ok found) is below = is.1
converted number limit (Err error) is below = absurd (is below)

pub returns : goal.returns
returns c = λ few.
    let world = c.args.world.now in
    let lock = c.args.lock in
    let count = c.tasks.ensures in
    let below : c.tasks.result < 2 ^ 32 = subst (λ n. n < 2 ^ 32) (sym count) few in
    let same : c.unwrap_or-tasks.result ≡ tasks_in world =
    c.unwrap_or-tasks.ensures ∙ converted c.tasks.result (2 ^ 32) c.try_from.result c.try_from.ensures below ∙ count in
    let board = c.board-board.ensures in
    IfOk-weaker c.holder_among.result _ _
    (λ holder is task. (
      (λ found. let holds = (is task).0 found in (
        subst (λ n. task < n) same holds.0,
        subst (λ (words : Words). slice_get words.locks lock ≡ Some (1 + task)) board holds.1,
      )),
      (λ holds. (is task).1 (
        subst (λ n. task < n) (sym same) holds.0,
        subst (λ (words : Words). slice_get words.locks lock ≡ Some (1 + task)) (sym board) holds.1,
      )),
    ))
    c.holder_among.ensures
