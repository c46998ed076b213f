-- By what a text means.
use Rattle.std.proofs.Common.{◌≤◌, ◌++◌, arith}
use Rattle.litmus_syntax.specs.Limits.{block_repeats}
use Rattle.program_order.specs.WrittenOrder.{stands_after}
use Rattle.executions.specs.observation_determinism.Begins.{begins_in}
use Rattle.executions.proofs.observation_determinism.BeginsBound.{few_begin}
use Rattle.executions.proofs.observation_determinism.laws.law_few_accesses_begin.Goals as goal

pub returns-clause-text : goal.returns-clause-text
returns-clause-text c = λ s registers body records written.
    few_begin s registers body records written (c.law_what_is_done_is_meant.ensures.whole s registers body (records ++ written.more))

pub returns-clause-limits : goal.returns-clause-limits
returns-clause-limits c = λ s registers body records written keeps.
    let few : begins_in (stands_after written).progress.did ≤ block_repeats 1 body =
    few_begin s registers body records written (c.law_what_is_done_is_meant.ensures.whole s registers body (records ++ written.more)) in
    let most : block_repeats 1 body ≤ 1024 = keeps.repeats in omega (arith, few, most)
