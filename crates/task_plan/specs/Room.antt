-- What a task's lists can hold before they take memory.
use Rattle.std.specs.Prelude.{ℕ, List, [], ◌∷◌, vec_capacity}
use Rattle.task_plan.specs.declared.progress.Progress.{Progress}

abbrev pub room_of : Progress → List ℕ
room_of progress = vec_capacity progress.registers ∷ vec_capacity progress.begun ∷ vec_capacity progress.held ∷ []
