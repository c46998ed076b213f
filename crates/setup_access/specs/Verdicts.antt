-- The outcome of a watch, where the watchpoint was hit and where nobody hit it.
use Rattle.std.specs.Prelude.{◌≡◌, ℕ, Option, Some, IsNone, IsSome, IsSomeAnd, true, false}
use Rattle.std.specs.FinMap as map
use Rattle.access_types.specs.Access.{Access, Overlap}
use Rattle.access_types.specs.Sites.{AccessMap}
use Rattle.slot.specs.Pair.{Halves}
use Rattle.value_filter.specs.Change.{IsSeen, seen_values}
use Rattle.value_filter.specs.Verdict.{VerdictOf}
use Rattle.value_filter.specs.declared.verdict.Change.{Change}
use Rattle.value_filter.specs.declared.verdict.Change.TheVariants.{Maybe, Ruled, Seen}
use Rattle.value_filter.specs.declared.verdict.Reason.{Reason}
use Rattle.value_filter.specs.declared.verdict.Reason.TheVariants.{Encoding}
use Rattle.value_filter.specs.declared.verdict.Verdict.TheVariants as verdicts
use Rattle.setup_access.specs.Setting.{Setting}
use Rattle.setup_access.specs.declared.outcome.Outcome.{Outcome}
use Rattle.setup_access.specs.declared.outcome.Outcome.TheVariants.{Dropped, Quiet, Report, Unknown}

-- what the values say of a change
pub data ChangeOf (a : Access) (values : Option (ℕ × ℕ)) (change : Change) : Type 0 where
  seen : IsSeen a values → change ≡ Seen → ChangeOf a values change
  ruled : ¬ IsSeen a values → IsSome a.mask → change ≡ Ruled → ChangeOf a values change
  maybe : ¬ IsSeen a values → IsNone a.mask → change ≡ Maybe → ChangeOf a values change

-- the ticket names an access that shares a byte with the setter's
abbrev pub SharesByte : AccessMap → Access → ℕ → Type 0
SharesByte sites a ticket = IsSomeAnd (map.get sites ticket) (λ finder. Overlap a finder)

-- the verdict on a watch that nobody hit: a change that was seen has an unknown origin
pub data UntouchedOutcome (s : Setting) (a : Access) (values : Option (ℕ × ℕ)) (outcome : Outcome) : Type 0 where
  unknown : (change : Change) (old new : ℕ) → ChangeOf a values change → VerdictOf a false change s.rules.value_change_only verdicts.Report
      → values ≡ Some (old, new) → outcome ≡ Unknown old new → UntouchedOutcome s a values outcome
  quiet : (change : Change) → ChangeOf a values change → VerdictOf a false change s.rules.value_change_only verdicts.Quiet
      → outcome ≡ Quiet → UntouchedOutcome s a values outcome

-- the verdict on a watch that was hit, by the access whose ticket was heard: the first row of the table is that the two
-- share no byte
pub data HitOutcome (s : Setting) (a : Access) (values : Option (ℕ × ℕ)) (both : Halves) (outcome : Outcome) : Type 0 where
  encoding : ¬ SharesByte s.sites a both.finder → outcome ≡ Dropped Encoding → HitOutcome s a values both outcome
  reported : (change : Change) → SharesByte s.sites a both.finder → ChangeOf a values change → VerdictOf a true change s.rules.value_change_only verdicts.Report
      → outcome ≡ Report both (seen_values change values) → HitOutcome s a values both outcome
  dropped : (change : Change) (reason : Reason) → SharesByte s.sites a both.finder → ChangeOf a values change → VerdictOf a true change s.rules.value_change_only (verdicts.Drop reason)
      → outcome ≡ Dropped reason → HitOutcome s a values both outcome
