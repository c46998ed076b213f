-- The picture of a trace.
use Rattle.std.specs.Prelude.{◌≡◌, ◌<◌, ◌≤◌, ℕ, List, length}
use Rattle.std.specs.List.{AllZip}
use Rattle.access_types.specs.Arms.{Arm}
use Rattle.access_types.specs.Stamped.{Stamped}
use Rattle.access_types.specs.Takes.{Take}
use Rattle.access_types.specs.declared.report.Report.{Report}
use Rattle.report_text.specs.Faults.{IsTrueTrace}
use Rattle.report_text.specs.Standing.{accesses_of, arms_of, reports_of, takes_of}
use Rattle.report_text.specs.TraceText.{Head}
use Rattle.report_text.specs.declared.line.Line.{Line}
use Rattle.trace_replay.specs.Answer.{IsRefused}
use Rattle.trace_replay.specs.trace_lines.HeadReading.{head_of}
use Rattle.timeline.specs.picture.Columns.{IsColumnOf, tasks}
use Rattle.timeline.specs.picture.Rows.{AreRows}
use Rattle.timeline.specs.picture.Watches.{IsTakingOf, IsWatchOf}
use Rattle.timeline.specs.declared.picture.draw.Picture.{Picture}
use Rattle.timeline.specs.declared.picture.error.PictureError.{PictureError}
use Rattle.timeline.specs.declared.picture.error.PictureError.TheVariants.{Trace, TooLong}

-- The picture shows these: each access and each report in its rows, once, in rising order of stamps; each arm and each
-- take, once, in their order; and when accesses of each task are in progress.
pub record Shows (accesses : List Stamped) (arms : List Arm) (takes : List Take) (reports : List Report) (picture : Picture) : Type 0 where
  pub rows : AreRows accesses reports picture.rows.items
  pub watches : AllZip (IsWatchOf accesses) arms picture.watches.items
  pub takings : AllZip (IsTakingOf accesses) takes picture.takings.items
  pub columns : AllZip (IsColumnOf accesses) tasks picture.columns.items

-- a picture has at most so many accesses
abbrev pub access_limit : ℕ
access_limit = 10000

-- the bytes are a true trace, and the picture shows it, with its head
pub record IsPictureOf (bytes : List ℕ) (picture : Picture) : Type 0 where
  pub head : Head
  pub head_is : head_of picture.head ≡ head
  pub all : List Line
  pub is_true : IsTrueTrace bytes head all
  pub within : length (accesses_of all) ≤ access_limit
  pub shown : Shows (accesses_of all) (arms_of all) (takes_of all) (reports_of all) picture

-- the bytes are a true trace of more accesses
pub record IsTooLong (bytes : List ℕ) : Type 0 where
  pub head : Head
  pub all : List Line
  pub is_true : IsTrueTrace bytes head all
  pub beyond : access_limit < length (accesses_of all)

-- why the bytes have no picture
abbrev pub IsUndrawn : List ℕ → PictureError → Type 0
IsUndrawn bytes (Trace error) = IsRefused bytes error
IsUndrawn bytes TooLong = IsTooLong bytes
