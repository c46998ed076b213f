-- What a call that writes a text leaves in a sink: all of it, or a beginning of it and one failure more.
use Rattle.std.specs.Prelude.{◌≡◌, ◌+◌, ◌-◌, ◌^◌, ◌≤◌, ◌++◌, ◌⊎◌, ℕ, List, Option, Some, None, length, take, Result, MatchResult}

-- the text stands behind what a sink had taken, where it can say that
abbrev pub appended : Option (List ℕ) → List ℕ → Option (List ℕ)
appended None text = None
appended (Some before) text = Some (before ++ text)

-- the count of failures rose by one, or stood at its last value
abbrev pub CountsFailure : ℕ → ℕ → Type 0
CountsFailure before after = (after ≡ before + 1) ⊎ (before ≡ 2 ^ 64 - 1)

-- behind what was there stands a beginning of the text
pub record HoldsBeginning (text : List ℕ) (before after : Option (List ℕ)) : Type 0 where
  pub count : ℕ
  pub within : count ≤ length text
  pub holds : after ≡ appended before (take count text)

-- the sink took the text, and didn't fail
pub record Takes {S : Type 0} (written : S → Option (List ℕ)) (failures : S → ℕ)
    (text : List ℕ) (before after : S) : Type 0 where
  pub holds : written after ≡ appended (written before) text
  pub works : failures after ≡ failures before

-- the sink failed, and holds a beginning of the text
pub record FailsWithin {S : Type 0} (written : S → Option (List ℕ)) (failures : S → ℕ)
    (text : List ℕ) (before after : S) : Type 0 where
  pub begun : HoldsBeginning text (written before) (written after)
  pub counted : CountsFailure (failures before) (failures after)

-- what a call that writes a text leaves: all of it and no failure, or a beginning of it and a failure
abbrev pub Writes : {S E : Type 0} → (S → Option (List ℕ)) → (S → ℕ)
    → Result (Unit {0}) E → List ℕ → S → S → Type 0
Writes written failures result text before after = MatchResult result
    (λ _. Takes written failures text before after)
    (λ _. FailsWithin written failures text before after)
