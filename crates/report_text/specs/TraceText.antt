-- The text of a trace: its head, its lines kind by kind, and its end.
use Rattle.std.specs.Prelude.{◌++◌, ℕ, List, codes, map}
use Rattle.std.specs.Fmt.{decimal}
use Rattle.std.specs.List.{flat_map}
use Rattle.access_types.specs.Arms.{Arm}
use Rattle.access_types.specs.ReportText.{line}
use Rattle.access_types.specs.Stamped.{Stamped}
use Rattle.access_types.specs.Takes.{Take}
use Rattle.access_types.specs.declared.report.Report.{Report}
use Rattle.watch_word.specs.declared.layout.Layout.{Layout}
use Rattle.watch_word.specs.declared.layout.Layout.TheVariants.{W64, W32}
use Rattle.report_text.specs.Line.{line_text}
use Rattle.report_text.specs.declared.line.Line.{Line}
use Rattle.report_text.specs.declared.line.Line.TheVariants as lines

-- what comes before the lines of a trace: its version, and in version 2 the number of slots and the
-- layout of watch words
pub data Head : Type 0 where
  first : Head
  second : (slots : ℕ) → (layout : Layout) → Head

-- the first line of version 1
unfoldable pub first_version : List ℕ
first_version = line (codes "KCSAN-TRACE 1")

-- the first line of version 2
unfoldable pub second_version : List ℕ
second_version = line (codes "KCSAN-TRACE 2")

-- how wide watch words are
abbrev pub width_word : Layout → List ℕ
width_word W64 = codes "64"
width_word W32 = codes "32"

-- the second line of version 2
unfoldable pub shape_line : ℕ → Layout → List ℕ
shape_line slots layout = line (codes "shape " ++ decimal slots ++ codes " " ++ width_word layout)

-- the lines of a head
abbrev pub head_text : Head → List ℕ
head_text first = first_version
head_text (second slots layout) = second_version ++ shape_line slots layout

-- the last line
unfoldable pub end_line : List ℕ
end_line = line (codes "end")

-- a trace of these lines
abbrev pub trace_text : Head → List Line → List ℕ
trace_text head all = head_text head ++ flat_map line_text all ++ end_line

-- the lines in the order in which they are written: accesses, arms, takes, reports
abbrev pub written_lines : List Stamped → List Arm → List Take → List Report → List Line
written_lines accesses arms takes reports =
    map (λ s. lines.Access s) accesses ++ map (λ a. lines.Arm a) arms
    ++ map (λ t. lines.Take t) takes ++ map (λ r. lines.Report r) reports

-- what is written of a run with these slots and this layout, in version 2
abbrev pub written_trace : ℕ → Layout → List Stamped → List Arm → List Take → List Report → List ℕ
written_trace slots layout accesses arms takes reports =
    trace_text (second slots layout) (written_lines accesses arms takes reports)
