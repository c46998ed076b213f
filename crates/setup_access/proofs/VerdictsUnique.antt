-- There is one outcome of each watch: one change of its values, and one verdict on that.
use Rattle.std.proofs.Common.{◌≡◌, ◌∙◌, ℕ, Bool, true, false, Option, None, Some, IsNone, IsSome, ap, subst, sym, arith, rules}
use Rattle.std.proofs.lemmas.Grind.{common_steps}
use Rattle.access_types.specs.Access.{Access}
use Rattle.slot.specs.Pair.{Halves}
use Rattle.value_filter.specs.Change.{seen_values}
use Rattle.value_filter.specs.Verdict.{VerdictOf}
use Rattle.value_filter.specs.declared.verdict.Change.{Change}
use Rattle.value_filter.specs.declared.verdict.Verdict.{Verdict}
use Rattle.value_filter.specs.declared.verdict.Verdict.TheVariants as verdicts
use Rattle.setup_access.specs.Setting.{Setting}
use Rattle.setup_access.specs.Verdicts.{ChangeOf, HitOutcome, UntouchedOutcome}
use Rattle.setup_access.specs.Verdicts as of
use Rattle.setup_access.specs.declared.outcome.Outcome.{Outcome}
use Rattle.setup_access.specs.declared.outcome.Outcome.TheVariants.{Quiet, Report, Unknown}

-- no option has a value and has none
some_or_none : (mask : Option ℕ) → IsSome mask → IsNone mask → ⊥
some_or_none None some none = grind (arith, common_steps)
some_or_none (Some mask) some none = grind (arith, common_steps)

verdict_unique : (setter : Access) (taken : Bool) (change : Change) (only : Bool) (first second : Verdict)
    → VerdictOf setter taken change only first → VerdictOf setter taken change only second → first ≡ second
verdict_unique setter taken change only first second p q = search rules

change_unique : (a : Access) (values : Option (ℕ × ℕ)) (first second : Change) → ChangeOf a values first → ChangeOf a values second → first ≡ second
change_unique a values first second (of.seen h e) (of.seen h' e') = e ∙ sym e'
change_unique a values first second (of.seen h e) (of.ruled n m e') = absurd (n h)
change_unique a values first second (of.seen h e) (of.maybe n m e') = absurd (n h)
change_unique a values first second (of.ruled n m e) (of.seen h e') = absurd (n h)
change_unique a values first second (of.ruled n m e) (of.ruled n' m' e') = e ∙ sym e'
change_unique a values first second (of.ruled n m e) (of.maybe n' m' e') = absurd (some_or_none a.mask m m')
change_unique a values first second (of.maybe n m e) (of.seen h e') = absurd (n h)
change_unique a values first second (of.maybe n m e) (of.ruled n' m' e') = absurd (some_or_none a.mask m' m)
change_unique a values first second (of.maybe n m e) (of.maybe n' m' e') = e ∙ sym e'

-- two verdicts on one watch
same_verdict : (a : Access) (values : Option (ℕ × ℕ)) (taken only : Bool) (c d : Change) (v w : Verdict)
    → ChangeOf a values c → ChangeOf a values d → VerdictOf a taken c only v → VerdictOf a taken d only w → v ≡ w
same_verdict a values taken only c d v w cs ds vs ws =
    verdict_unique a taken c only v w vs (subst (λ x. VerdictOf a taken x only w) (change_unique a values d c ds cs) ws)

-- the outcome that these values make
unknown_of : Option (ℕ × ℕ) → Outcome
unknown_of None = Quiet
unknown_of (Some values) = Unknown values.0 values.1

pub untouched_unique : (s : Setting) (a : Access) (values : Option (ℕ × ℕ)) (first second : Outcome)
    → UntouchedOutcome s a values first → UntouchedOutcome s a values second → first ≡ second
unfolding unknown_of
untouched_unique s a values first second (of.unknown c old new cs vs is e) (of.unknown d old' new' ds ws is' e') =
    e ∙ (sym (ap unknown_of is) ∙ (ap unknown_of is' ∙ sym e'))
untouched_unique s a values first second (of.unknown c old new cs vs is e) (of.quiet d ds ws e') =
    absurd (let same : verdicts.Report ≡ verdicts.Quiet = same_verdict a values false s.rules.value_change_only c d verdicts.Report verdicts.Quiet cs ds vs ws in cc)
untouched_unique s a values first second (of.quiet c cs vs e) (of.unknown d old' new' ds ws is' e') =
    absurd (let same : verdicts.Quiet ≡ verdicts.Report = same_verdict a values false s.rules.value_change_only c d verdicts.Quiet verdicts.Report cs ds vs ws in cc)
untouched_unique s a values first second (of.quiet c cs vs e) (of.quiet d ds ws e') = e ∙ sym e'

pub hit_unique : (s : Setting) (a : Access) (values : Option (ℕ × ℕ)) (both : Halves) (first second : Outcome)
    → HitOutcome s a values both first → HitOutcome s a values both second → first ≡ second
hit_unique s a values both first second (of.encoding n e) (of.encoding n' e') = e ∙ sym e'
hit_unique s a values both first second (of.encoding n e) (of.reported d h ds ws e') = absurd (n h)
hit_unique s a values both first second (of.encoding n e) (of.dropped d r h ds ws e') = absurd (n h)
hit_unique s a values both first second (of.reported c h cs vs e) (of.encoding n e') = absurd (n h)
hit_unique s a values both first second (of.reported c h cs vs e) (of.reported d h' ds ws e') =
    e ∙ (ap (λ x. Report both (seen_values x values)) (change_unique a values c d cs ds) ∙ sym e')
hit_unique s a values both first second (of.reported c h cs vs e) (of.dropped d r h' ds ws e') =
    absurd (let same : verdicts.Report ≡ verdicts.Drop r = same_verdict a values true s.rules.value_change_only c d verdicts.Report (verdicts.Drop r) cs ds vs ws in cc)
hit_unique s a values both first second (of.dropped c r h cs vs e) (of.encoding n e') = absurd (n h)
hit_unique s a values both first second (of.dropped c r h cs vs e) (of.reported d h' ds ws e') =
    absurd (let same : verdicts.Drop r ≡ verdicts.Report = same_verdict a values true s.rules.value_change_only c d (verdicts.Drop r) verdicts.Report cs ds vs ws in cc)
hit_unique s a values both first second (of.dropped c r h cs vs e) (of.dropped d r' h' ds ws e') =
    let same : verdicts.Drop r ≡ verdicts.Drop r' = same_verdict a values true s.rules.value_change_only c d (verdicts.Drop r) (verdicts.Drop r') cs ds vs ws in cc
