-- The rows of a picture.
use Rattle.std.specs.Prelude.{◌≡◌, ◌<◌, ◌≤◌, ◌+◌, ◌*◌, ◌++◌, ◌∷◌, [], ℕ, List, max}
use Rattle.std.specs.List.{AllZip, flat_map}
use Rattle.std.specs.List.Sorted.{IsNonDecreasingBy, IsPermutation}
use Rattle.access_types.specs.Stamped.{Stamped}
use Rattle.access_types.specs.declared.report.Report.{Report}
use Rattle.access_types.specs.declared.report.Report.TheVariants.{Two, Unknown}
use Rattle.trace_replay.specs.Accesses.{IsNamed}
use Rattle.timeline.specs.declared.picture.rows.Mark.{Mark}
use Rattle.timeline.specs.declared.picture.rows.Mark.TheVariants.{Begin, End, Race, Origin}
use Rattle.timeline.specs.declared.picture.rows.Row.{Row}

-- at the stamp the access has begun, and not ended
pub record IsInProgress (s : Stamped) (stamp : ℕ) : Type 0 where
  pub begun : s.begin ≤ stamp
  pub goes_on : stamp < s.end

-- the rows of an access: its begin and its end, each at its stamp
abbrev pub rows_of : Stamped → List Row
rows_of s = record { stamp = s.begin; mark = Begin s } ∷ record { stamp = s.end; mark = End s } ∷ []

-- The row is that of the report: it has the accesses that the report names, and stands where the later of them begins,
-- at a stamp at which they are in progress.
abbrev pub IsRowOf : List Stamped → Report → Row → Type 0
IsRowOf accesses (Two setter finder seen) row = (s : Stamped) × (f : Stamped)
    × IsNamed accesses setter s × IsNamed accesses finder f
    × (row.mark ≡ Race s f) × (row.stamp ≡ max s.begin f.begin) × IsInProgress s row.stamp × IsInProgress f row.stamp
IsRowOf accesses (Unknown setter old new) row = (s : Stamped)
    × IsNamed accesses setter s × (row.mark ≡ Origin s old new) × (row.stamp ≡ s.begin) × IsInProgress s row.stamp

-- at one stamp, what is reported comes behind what begins or ends
abbrev pub rank : Mark → ℕ
rank (Begin s) = 0
rank (End s) = 0
rank (Race s f) = 1
rank (Origin s old new) = 1

-- where a row comes among rows
abbrev pub place : Row → ℕ
place row = 2 * row.stamp + rank row.mark

-- The rows are those of the accesses and of the reports, each once, in rising order of their stamps, and at one stamp
-- of their ranks.
pub record AreRows (accesses : List Stamped) (reports : List Report) (rows : List Row) : Type 0 where
  pub of_reports : List Row
  pub each_report : AllZip (IsRowOf accesses) reports of_reports
  pub each_once : IsPermutation (flat_map rows_of accesses ++ of_reports) rows
  pub rising : IsNonDecreasingBy place rows
