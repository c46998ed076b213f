-- The lines of a trace, by their kinds, and as they stand in bytes.
use Rattle.std.specs.Prelude.{◌≡◌, ◌++◌, ℕ, List}
use Rattle.std.specs.List.{AllByRecursion, flat_map}
use Rattle.report_text.specs.Line.{line_text}
use Rattle.report_text.specs.Standing.{accesses_of, arms_of, reports_of, takes_of}
use Rattle.report_text.specs.TraceText.{end_line}
use Rattle.report_text.specs.declared.line.Line.{Line}
use Rattle.trace_replay.specs.trace_lines.Reading.{IsPlain}
use Rattle.timeline.specs.declared.picture.parts.Parts.{Parts}

-- the lines, by their kinds
pub record ArePartsOf (all : List Line) (parts : Parts) : Type 0 where
  pub accesses : parts.accesses.items ≡ accesses_of all
  pub arms : parts.arms.items ≡ arms_of all
  pub takes : parts.takes.items ≡ takes_of all
  pub reports : parts.reports.items ≡ reports_of all

-- the bytes are those of the lines and of the last line of a trace
pub record AreSpelled (all : List Line) (bytes : List ℕ) : Type 0 where
  pub plain : AllByRecursion IsPlain all
  pub spelled : bytes ≡ flat_map line_text all ++ end_line
