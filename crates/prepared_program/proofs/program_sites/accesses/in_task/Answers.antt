-- Within the limits the loops fit, and the accesses are few.
use Rattle.std.proofs.Common.{◌≡◌, ◌≤◌, List, subst}
use Rattle.litmus_semantics.proofs.LimitLemmas.{all_loops_fit}
use Rattle.litmus_semantics.specs.TextSites.{AllLoopsFit}
use Rattle.litmus_syntax.specs.Limits.{block_repeats}
use Rattle.litmus_syntax.specs.Views.{block_of}
use Rattle.litmus_syntax.specs.declared.statement.Statement.{Statement}
use Rattle.prepared_program.proofs.program_sites.accesses.in_task.Goals as goal

pub returns : goal.returns
returns c =
    let same = c.as_slice.ensures.value in
    let fits = all_loops_fit 1 (block_of c.args.task.now.body.items) c.requires.turns in
    subst (λ (xs : List Statement). AllLoopsFit 1 (block_of xs) → block_repeats 1 (block_of xs) ≤ 1024 → c.in_block.result ≡ block_repeats 1 (block_of xs))
    same c.in_block.ensures fits c.requires.repeats
