-- A question that is asked again and again. Each time it answers yes or no, and it may change.
use Rattle.std.specs.Prelude.{◌≡◌, ◌<◌, ◌⊎◌, ℕ, zero, suc, Bool, false, true}

-- so often in a row it answered no
abbrev pub AnswersNo : {Question : Type 0} → (Answers : Question → Bool → Question → Type 0) → ℕ → Question → Question → Type 0
AnswersNo Answers zero first last = first ≡ last
AnswersNo {Question} Answers (suc times) first last = (before : Question) × AnswersNo Answers times first before × Answers before false last

-- It was asked until it answered yes, or so often at most, and answered no so many times.
abbrev pub IsAskedUntilYes : {Question : Type 0} → (Answers : Question → Bool → Question → Type 0) → (most : ℕ) → Question
    → (times : ℕ) → Type 0
IsAskedUntilYes {Question} Answers most first times = (last : Question) × AnswersNo Answers times first last
    × ((times ≡ most) ⊎ ((times < most) × ((after : Question) × Answers last true after)))
