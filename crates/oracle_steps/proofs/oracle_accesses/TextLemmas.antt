-- A task of a program is one of its tasks within the limits.
use Rattle.std.proofs.Common.{◌≡◌, ◌<◌, ◌∷◌, [], ℕ, zero, suc, List, Some, ap, get_or, length, map, slice_get, subst, sym}
use Rattle.std.proofs.lemmas.List.{length-map}
use Rattle.std.proofs.lemmas.Option.{slice_get_within}
use Rattle.litmus_syntax.specs.Limits.{KeepsLimits, TaskKeepsLimits}
use Rattle.litmus_syntax.specs.Views.{program_of, task_of}
use Rattle.litmus_syntax.specs.declared.program.Program.{Program}
use Rattle.litmus_syntax.specs.declared.program.Task.{Task as CodeTask}

some_same : {X : Type 0} (one other : X) → Some one ≡ Some other → one ≡ other
some_same one other same = cc

at_map : {X Y : Type 0} (f : X → Y) (xs : List X) (at : ℕ) (x : X) (d : Y) → slice_get xs at ≡ Some x → get_or (map f xs) at d ≡ f x
at_map f [] at x d is = absurd (cc)
at_map f (first ∷ later) zero x d is = ap f (some_same first x is)
at_map f (first ∷ later) (suc at) x d is = at_map f later at x d is

-- its number is below that of the tasks
pub is_below : (program : Program) (number : ℕ) (task : CodeTask) → slice_get program.tasks number ≡ Some task
    → number < length (program_of program).tasks
is_below program number task is =
    subst (λ (n : ℕ). number < n) (sym (length-map program.tasks task_of)) (slice_get_within program.tasks number task is)

-- it keeps the limits
pub keeps_limits : (program : Program) (number : ℕ) (task : CodeTask) → KeepsLimits (program_of program)
    → slice_get program.tasks number ≡ Some task → TaskKeepsLimits program.variables (task_of task)
keeps_limits program number task limits is =
    subst (TaskKeepsLimits program.variables) (at_map task_of program.tasks number task (task_of task) is)
    (limits.each_task number (task_of task) (is_below program number task is))
