-- Two accesses are in progress at one moment, or at none: past the end nothing changes any more.
use Rattle.std.proofs.Common.{◌≡◌, ◌<◌, ◌≤◌, ◌+◌, ◌∙◌, ℕ, inl, inr, length, sym, take, arith}
use Rattle.std.proofs.lemmas.Bool.{cases_lt}
use Rattle.std.proofs.lemmas.List.{take_all}
use Rattle.access_types.specs.Access.{Access}
use Rattle.access_types.specs.History.{History, InProgress}

-- after all moments what is in progress stays so
in_progress-past : (history : History) (a : Access) (k : ℕ) → length history ≤ k
    → InProgress history a k → InProgress history a (length history)
in_progress-past history a k past goes =
    let all = take_all (length history) history (omega arith) in
    let same : take (length history) history ≡ take k history = all
    ∙ sym (take_all k history past) in
    record { begun = rw same goes.begun; unended = rw same goes.unended }

-- both are in progress after k moments
abbrev pub GoTogetherAt : History → Access → Access → ℕ → Type 0
GoTogetherAt history s f k = InProgress history s k × InProgress history f k

-- where no moment of the history has both in progress, none has
pub not_together : (history : History) (s f : Access)
    → ((k : ℕ) → k < length history + 1 → ¬ GoTogetherAt history s f k)
    → ¬ ((k : ℕ) × GoTogetherAt history s f k)
not_together history s f none both =
    let at_end = none (length history) (omega arith) in
    elim (cases_lt both.0 (length history)) [
      | inl within ↦ none both.0 (omega arith) both.1
      | inr past ↦ at_end (
        in_progress-past history s both.0 past both.1.0,
        in_progress-past history f both.0 past both.1.1,
      )
    ]
