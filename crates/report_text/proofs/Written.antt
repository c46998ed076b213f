-- The text of a written trace, part by part.
use Rattle.std.proofs.Common.{◌≡◌, ◌++◌, ◌∙◌, ℕ, List, ap, append_assoc, sym, map}
use Rattle.std.proofs.lemmas.Grind.{flat_map-append}
use Rattle.std.proofs.lemmas.List.Folds.{flat_map-map}
use Rattle.std.specs.List.{flat_map}
use Rattle.access_types.specs.Arms.{Arm}
use Rattle.access_types.specs.Stamped.{Stamped}
use Rattle.access_types.specs.Takes.{Take}
use Rattle.access_types.specs.declared.report.Report.{Report}
use Rattle.watch_word.specs.declared.layout.Layout.{Layout}
use Rattle.report_text.specs.Line.{line_text, spell_access, spell_arm, spell_report, spell_take}
use Rattle.report_text.specs.TraceText.{end_line, head_text, second, written_lines, written_trace}
use Rattle.report_text.specs.declared.line.Line.{Line}
use Rattle.report_text.specs.declared.line.Line.TheVariants as lines

-- the lines, kind by kind
lines_are : (accesses : List Stamped) (arms : List Arm) (takes : List Take) (reports : List Report)
    → flat_map line_text (written_lines accesses arms takes reports)
    ≡ flat_map spell_access accesses ++ flat_map spell_arm arms ++ flat_map spell_take takes ++ flat_map spell_report reports
lines_are accesses arms takes reports =
    let A : List Line = map (λ s. lines.Access s) accesses in
    let B : List Line = map (λ a. lines.Arm a) arms in
    let C : List Line = map (λ t. lines.Take t) takes in
    let D : List Line = map (λ r. lines.Report r) reports in
    rw (
      flat_map-append line_text (A ++ B ++ C) D,
      flat_map-append line_text (A ++ B) C,
      flat_map-append line_text A B,
      flat_map-map line_text (λ s. lines.Access s) accesses,
      flat_map-map line_text (λ a. lines.Arm a) arms,
      flat_map-map line_text (λ t. lines.Take t) takes,
      flat_map-map line_text (λ r. lines.Report r) reports,
    )

-- the parts, one after the other
regrouped : (h a b c d e : List ℕ) → h ++ (a ++ b ++ c ++ d) ++ e ≡ h ++ (a ++ (b ++ (c ++ (d ++ e))))
regrouped h a b c d e = simp append_assoc

-- the head, the accesses, the armings, the takings, the reports and the end
pub written_is : (slots : ℕ) (layout : Layout)
    (accesses : List Stamped) (arms : List Arm) (takes : List Take) (reports : List Report)
    → head_text (second slots layout)
    ++ (flat_map spell_access accesses ++ (flat_map spell_arm arms ++ (flat_map spell_take takes ++ (flat_map spell_report reports ++ end_line))))
    ≡ written_trace slots layout accesses arms takes reports
written_is slots layout accesses arms takes reports =
    sym (ap (λ t. head_text (second slots layout) ++ t ++ end_line) (lines_are accesses arms takes reports)
    ∙ regrouped (head_text (second slots layout)) (flat_map spell_access accesses) (flat_map spell_arm arms)
    (flat_map spell_take takes) (flat_map spell_report reports) end_line)
