-- the rows of reports stand at stamps at which their accesses are in progress
use Rattle.std.proofs.Common.{◌≡◌, ◌<◌, ℕ, List, Option, arith, subst, sym}
use Rattle.std.specs.Prelude.{max}
use Rattle.access_types.specs.Stamped.{Stamped}
use Rattle.access_types.specs.declared.report.Report.{Report}
use Rattle.access_types.specs.declared.report.Report.TheVariants.{Two, Unknown}
use Rattle.access_types.specs.declared.report.ValueChange.{ValueChange}
use Rattle.report_text.specs.Truth.{AreInProgressAtOnce}
use Rattle.trace_replay.specs.Accesses.{IsNamed}
use Rattle.timeline.specs.picture.Rows.{IsInProgress, IsRowOf}
use Rattle.timeline.specs.picture.Sound.{ReportHolds}
use Rattle.timeline.specs.declared.picture.rows.Mark.TheVariants.{Origin, Race}
use Rattle.timeline.specs.declared.picture.rows.Row.{Row}

at_once : (s f : Stamped) (stamp : ℕ) → AreInProgressAtOnce s f → s.begin < s.end → f.begin < f.end → stamp ≡ max s.begin f.begin
    → IsInProgress s stamp × IsInProgress f stamp
at_once s f stamp h s_later f_later e =
    let one = h.setter_first in
    let other = h.finder_first in (
      record { begun = omega arith; goes_on = omega arith },
      record { begun = omega arith; goes_on = omega arith },
    )

pub race_placed : (accesses : List Stamped) (report : Report) (setter finder : ℕ) (seen : Option ValueChange) → report ≡ Two setter finder seen
    → (s f : Stamped) (row : Row) → IsNamed accesses setter s → IsNamed accesses finder f → ReportHolds accesses report
    → row.mark ≡ Race s f → row.stamp ≡ max s.begin f.begin → IsRowOf accesses report row
race_placed accesses report setter finder seen is s f row s_named f_named holds mark stamp =
    let race : ReportHolds accesses (Two setter finder seen) = subst (ReportHolds accesses) is holds in
    let s_same : s ≡ race.0 = race.2.only s s_named in
    let f_same : f ≡ race.1 = race.3.only f f_named in
    let once : AreInProgressAtOnce s f = subst (λ t. AreInProgressAtOnce t f) (sym s_same)
    (subst (AreInProgressAtOnce race.0) (sym f_same) race.4) in
    let s_later : s.begin < s.end = subst (λ (t : Stamped). t.begin < t.end) (sym s_same) race.2.ends_later in
    let f_later : f.begin < f.end = subst (λ (t : Stamped). t.begin < t.end) (sym f_same) race.3.ends_later in
    let both = at_once s f row.stamp once s_later f_later stamp in
    let placed : IsRowOf accesses (Two setter finder seen) row = (s, f, s_named, f_named, mark, stamp, both.0, both.1) in
    subst (λ r. IsRowOf accesses r row) (sym is) placed

pub origin_placed : (accesses : List Stamped) (report : Report) (setter old new : ℕ) → report ≡ Unknown setter old new
    → (s : Stamped) (row : Row) → IsNamed accesses setter s → ReportHolds accesses report
    → row.mark ≡ Origin s old new → row.stamp ≡ s.begin → IsRowOf accesses report row
origin_placed accesses report setter old new is s row s_named holds mark stamp =
    let change : ReportHolds accesses (Unknown setter old new) = subst (ReportHolds accesses) is holds in
    let same : s ≡ change.0 = change.1.only s s_named in
    let later : s.begin < s.end = subst (λ (t : Stamped). t.begin < t.end) (sym same) change.1.ends_later in
    let placed : IsRowOf accesses (Unknown setter old new) row =
    (s, s_named, mark, stamp, record { begun = omega arith; goes_on = omega arith }) in
    subst (λ r. IsRowOf accesses r row) (sym is) placed
