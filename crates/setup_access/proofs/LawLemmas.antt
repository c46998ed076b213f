-- A reported pair is the one that was heard, and shares a byte: by the cases of the verdict.
use Rattle.std.proofs.Common.{◌≡◌, ℕ, Option, subst, sym}
use Rattle.access_types.specs.Access.{Access}
use Rattle.access_types.specs.declared.report.ValueChange.{ValueChange}
use Rattle.slot.specs.Pair.{Halves}
use Rattle.setup_access.specs.Setting.{Setting}
use Rattle.setup_access.specs.Verdicts as of
use Rattle.setup_access.specs.Verdicts.{HitOutcome, SharesByte}
use Rattle.setup_access.specs.declared.outcome.Outcome.TheVariants as outcomes

pub shares : (s : Setting) (a : Access) (values : Option (ℕ × ℕ)) (both pair : Halves) (seen : Option ValueChange)
    → HitOutcome s a values both (outcomes.Report pair seen) → (pair ≡ both) × SharesByte s.sites a pair.finder
shares s a values both pair seen (of.encoding n e) = absurd cc
shares s a values both pair seen (of.reported c h cs vs e) =
    let same : pair ≡ both = cc in (same, subst (λ (p : Halves). SharesByte s.sites a p.finder) (sym same) h)
shares s a values both pair seen (of.dropped c r h cs vs e) = absurd cc
