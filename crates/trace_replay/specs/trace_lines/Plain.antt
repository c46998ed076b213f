-- A line as its text tells it.
use Rattle.std.specs.Prelude.{◌≡◌, ◌<◌, ◌^◌, List, Contains, None, length}
use Rattle.access_types.specs.Access.{IsInLimits, proper_mask}
use Rattle.access_types.specs.Stamped.{Stamped}
use Rattle.access_types.specs.declared.kind.Kind.{Kind}
use Rattle.access_types.specs.declared.kind.Kind.TheVariants.{Plain, Marked, Assert, AssertScoped}
use Rattle.access_types.specs.declared.report.Report.{Report}
use Rattle.access_types.specs.declared.report.Report.TheVariants.{Two, Unknown}
use Rattle.report_text.specs.Line.{line_text}
use Rattle.report_text.specs.Standing.{Stands, accesses_of, arms_of}
use Rattle.report_text.specs.TraceText.{Head}
use Rattle.report_text.specs.declared.line.Line.{Line}
use Rattle.report_text.specs.declared.line.Line.TheVariants as lines
use Rattle.trace_replay.specs.trace_lines.Reading.{IsPlain}

-- an assertion without its scope
abbrev pub without_scope : Kind → Kind
without_scope (Plain operation) = Plain operation
without_scope (Marked operation) = Marked operation
without_scope (Assert claim) = Assert claim
without_scope (AssertScoped claim) = Assert claim

-- an access without a scope, and without a mask that has no bit
abbrev pub plain_access : Stamped → Stamped
plain_access s = record s {
  access = record s.access { kind = without_scope s.access.kind; mask = proper_mask s.access.mask };
}

-- a report without the change that was seen at a race
abbrev pub plain_report : Report → Report
plain_report (Two setter finder seen) = Two setter finder None
plain_report (Unknown setter old new) = Unknown setter old new

-- a line with what its text tells, and nothing more
abbrev pub plain_line : Line → Line
plain_line (lines.Access s) = lines.Access (plain_access s)
plain_line (lines.Arm a) = lines.Arm a
plain_line (lines.Take t) = lines.Take t
plain_line (lines.Report r) = lines.Report (plain_report r)

-- the lines of a trace so far keep the limits of accesses, and fewer than 2^64 are armings
pub record KeepLimits (before : List Line) : Type 0 where
  pub accesses : (s : Stamped) → Contains (accesses_of before) s → IsInLimits s.access
  pub arms : length (arms_of before) < 2 ^ 64

-- what is the same of a line and of its plain form
pub record IsPlainForm (head : Head) (before : List Line) (line plain : Line) : Type 0 where
  pub text : line_text plain ≡ line_text line
  pub is : IsPlain plain
  pub stands : Stands head before plain
