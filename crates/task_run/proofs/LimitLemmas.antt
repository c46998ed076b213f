-- What a task of a program within the limits has.
use Rattle.std.proofs.Common.{◌≡◌, ◌<◌, ◌≤◌, All, ℕ, zero, suc, List, [], ◌∷◌, None, Some, arith, length, map, slice_get, subst}
use Rattle.std.proofs.lemmas.List.{length-map}
use Rattle.std.proofs.lemmas.List.Elements.{All-head, All-tail}
use Rattle.std.proofs.lemmas.Option.{slice_get_within}
use Rattle.litmus_semantics.proofs.LimitLemmas.{few_sites}
use Rattle.litmus_syntax.specs.Limits.{KeepsLimits, TaskKeepsLimits}
use Rattle.litmus_syntax.specs.Sites.{sites_of}
use Rattle.litmus_syntax.specs.Views.{block_of, program_of, task_of}
use Rattle.litmus_syntax.specs.declared.program.Program.{Program}
use Rattle.litmus_syntax.specs.declared.program.Task.{Task}

-- what holds of each is true of the one of a number
of_each : {A B : Type 0} (view : A → B) (P : B → Type 0) (list : List A) (number : ℕ) (one : A) → All P (map view list) → slice_get list number ≡ Some one → P (view one)
of_each view P [] number one all there = absurd (let no : None ≡ Some one = there in cc)
of_each view P (first ∷ more) zero one all there =
    let same : first ≡ one = cc in subst (λ x. P (view x)) same (All-head P (view first) (map view more) all)
of_each view P (first ∷ more) (suc number) one all there = of_each view P more number one (All-tail P (view first) (map view more) all) there

module _ (program : Program) (number : ℕ) (task : Task) (limits : KeepsLimits (program_of program)) (there : slice_get program.tasks number ≡ Some task) where
  pub few_tasks : number < 16
  few_tasks =
      let within = slice_get_within program.tasks number task there in
      let same = length-map program.tasks task_of in
      let most = limits.tasks in
      omega (arith, within, same, most)

  pub few_task_sites : length (sites_of (block_of task.body.items)) ≤ 256
  few_task_sites = few_sites (block_of task.body.items) (of_each task_of (TaskKeepsLimits program.variables) program.tasks number task limits.each_task there).body
