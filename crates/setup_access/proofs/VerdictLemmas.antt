-- Each verdict on a watch is one that its outcome can be made of.
use Rattle.std.proofs.Common.{◌≡◌, ◌↔◌, ℕ, Bool, true, false, Option, IsNone, IsSome, refl}
use Rattle.access_types.specs.Access.{Access}
use Rattle.value_filter.specs.Change.{IsSeen}
use Rattle.value_filter.specs.Verdict as table
use Rattle.value_filter.specs.Verdict.{VerdictOf}
use Rattle.value_filter.specs.declared.verdict.Change.{Change}
use Rattle.value_filter.specs.declared.verdict.Change.TheVariants.{Maybe, Ruled, Seen}
use Rattle.value_filter.specs.declared.verdict.Reason.{Reason}
use Rattle.value_filter.specs.declared.verdict.Verdict.TheVariants.{Drop, Quiet, Report}
use Rattle.setup_access.specs.Verdicts.{ChangeOf}
use Rattle.setup_access.specs.Verdicts as changes

-- what `change` ensures of its result
pub change_of : (a : Access) (values : Option (ℕ × ℕ)) (change : Change) → ((change ≡ Seen) ↔ IsSeen a values)
    → ((change ≡ Ruled) ↔ (¬ IsSeen a values × IsSome a.mask)) → ((change ≡ Maybe) ↔ (¬ IsSeen a values × IsNone a.mask)) → ChangeOf a values change
change_of a values Seen seen ruled maybe = changes.seen (seen.0 refl) refl
change_of a values Maybe seen ruled maybe = changes.maybe (maybe.0 refl).0 (maybe.0 refl).1 refl
change_of a values Ruled seen ruled maybe = changes.ruled (ruled.0 refl).0 (ruled.0 refl).1 refl

-- a watch that was hit is never quiet
pub hit_is_not_quiet : (a : Access) (change : Change) (only : Bool) → VerdictOf a true change only Quiet → ⊥
hit_is_not_quiet a change only (table.taken_seen t c v) = cc
hit_is_not_quiet a change only (table.taken_ruled t c v) = cc
hit_is_not_quiet a change only (table.taken_unseen t c m v) = cc
hit_is_not_quiet a change only (table.taken_same t c m o v) = cc
hit_is_not_quiet a change only (table.taken_any t c m o v) = cc
hit_is_not_quiet a change only (table.untaken_seen t c v) = cc
hit_is_not_quiet a change only (table.untaken t c v) = cc

-- an untouched watch is never dropped
pub untouched_is_not_dropped : (a : Access) (change : Change) (only : Bool) (reason : Reason) → VerdictOf a false change only (Drop reason) → ⊥
untouched_is_not_dropped a change only reason (table.taken_seen t c v) = cc
untouched_is_not_dropped a change only reason (table.taken_ruled t c v) = cc
untouched_is_not_dropped a change only reason (table.taken_unseen t c m v) = cc
untouched_is_not_dropped a change only reason (table.taken_same t c m o v) = cc
untouched_is_not_dropped a change only reason (table.taken_any t c m o v) = cc
untouched_is_not_dropped a change only reason (table.untaken_seen t c v) = cc
untouched_is_not_dropped a change only reason (table.untaken t c v) = cc

-- it is reported only where a change was seen
pub untouched_report_is_seen : (a : Access) (change : Change) (only : Bool) → VerdictOf a false change only Report → change ≡ Seen
untouched_report_is_seen a change only (table.taken_seen t c v) = cc
untouched_report_is_seen a change only (table.taken_ruled t c v) = cc
untouched_report_is_seen a change only (table.taken_unseen t c m v) = cc
untouched_report_is_seen a change only (table.taken_same t c m o v) = cc
untouched_report_is_seen a change only (table.taken_any t c m o v) = cc
untouched_report_is_seen a change only (table.untaken_seen t c v) = c
untouched_report_is_seen a change only (table.untaken t c v) = cc
