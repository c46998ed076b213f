-- Which task is setter at an index, and which is a finder there that has not told yet.
use Rattle.std.specs.Prelude.{◌==◌, ◌⊎◌, ℕ, Bool, true, false, List, [], ◌∷◌, IsTrue, if◌then◌else◌}
use Rattle.slot_table.specs.Records.{records_of}
use Rattle.slot_table.specs.declared.records.Record.{Record}
use Rattle.slot_table.specs.declared.step.Answer.{Answer}
use Rattle.slot_table.specs.declared.step.Answer.TheVariants as answers
use Rattle.slot_table.specs.declared.step.Step.{Step}
use Rattle.slot_table.specs.declared.step.Step.TheVariants.{Insert, TryConsume, Remove, Tell}

-- an insertion that succeeded opens an arming, and a remove closes it
abbrev pub open_after : ℕ → Step → Answer → Bool → Bool
open_after index (Insert at word) (answers.Flag true) before = if at == index then true else before
open_after index (Remove at) answer before = if at == index then false else before
open_after index step answer before = before

-- has a task an arming at an index that it has not removed?
abbrev pub has_open_arming : ℕ → List Record → Bool
has_open_arming index [] = false
has_open_arming index (latest ∷ earlier) =
    open_after index latest.step latest.answer (has_open_arming index earlier)

-- a try that succeeded is a taking, and a tell is its end
abbrev pub untold_after : ℕ → Step → Answer → Bool → Bool
untold_after index (TryConsume at word) (answers.Flag true) before =
    if at == index then true else before
untold_after index (Tell at ticket) answer before = if at == index then false else before
untold_after index step answer before = before

-- has a task a taking at an index that it has not told?
abbrev pub has_untold_taking : ℕ → List Record → Bool
has_untold_taking index [] = false
has_untold_taking index (latest ∷ earlier) =
    untold_after index latest.step latest.answer (has_untold_taking index earlier)

-- the task is setter at the index: it has an arming there that it has not removed
abbrev pub IsSetterAt : ℕ → ℕ → List Record → Type 0
IsSetterAt task index records = IsTrue (has_open_arming index (records_of task records))

-- the task is a finder at the index that has not told: it has a taking there without a tell
abbrev pub IsFinderAt : ℕ → ℕ → List Record → Type 0
IsFinderAt task index records = IsTrue (has_untold_taking index (records_of task records))

-- the task is either
abbrev pub IsEitherAt : ℕ → ℕ → List Record → Type 0
IsEitherAt task index records = IsSetterAt task index records ⊎ IsFinderAt task index records
