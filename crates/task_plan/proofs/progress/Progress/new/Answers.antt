use Rattle.std.proofs.Common.{refl}
use Rattle.task_plan.proofs.KeepsLemmas.{keeps_first}
use Rattle.task_plan.proofs.progress.Progress.new.Goals as goal

pub returns : goal.returns
returns c =
    keeps_first c.args.variables c.args.registers _
    (c.in_ok-vec.ensures.items_if_clones_equal (λ _ same. same))
    (c.in_ok-vec-2.ensures.items_if_clones_equal (λ _ same. same))
    (c.in_ok-vec-3.ensures.items_if_clones_equal (λ _ same. same)) refl
