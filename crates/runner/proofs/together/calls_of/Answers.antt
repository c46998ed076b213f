-- Those of one task more are added.
use Rattle.std.proofs.Common.{◌≡◌, ◌+◌, ◌∙◌, ℕ, suc, ap, arith, length, refl, slice_get, subst}
use Rattle.std.proofs.lemmas.Option.{slice_get_read}
use Rattle.runner.proofs.together.calls_of.Goals as goal
use Rattle.runner.specs.TaskResult.{calls_below, calls_of}
use Rattle.task_log.specs.Counters.{together}

pub loop-one-preserved : goal.loop-one-preserved
loop-one-preserved c =
    let all = c.args.found.now in
    let at : ℕ = c.loop-one.one-index in
    let stands = slice_get_read all (length all) at c.one-item.result refl c.loop-one-test.true c.one-item.is in
    let here : calls_of (slice_get all at) ≡ c.one-item.result.unbalanced = ap calls_of stands in
    let before : c.loop-one.unbalanced ≡ calls_below all at = c.loop-one.invariant in
    let more : c.saturating_add-unbalanced.result ≡ together (calls_below all at) (calls_of (slice_get all at)) =
    omega (arith, here, before, c.saturating_add-unbalanced.ensures) in
    subst (λ n. c.saturating_add-unbalanced.result ≡ calls_below all n) (let next : suc at ≡ at + 1 = omega arith in next) more

pub returns : goal.returns
returns c =
    let over : c.loop-one.one-index ≡ length c.args.found.now = omega (arith, c.loop-one-test.false, c.loop-one.auto.one-index-end) in
    c.loop-one.invariant ∙ ap (calls_below c.args.found.now) over
