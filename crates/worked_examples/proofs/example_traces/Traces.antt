-- The examples of version 1 are true traces: each line of them may stand where it does, and is true.
use Rattle.std.proofs.Common.{◌≡◌, ◌≢◌, ◌+◌, ◌^◌, ◌<◌, ◌≤◌, ◌++◌, ◌∷◌, ◌∙◌, ℕ, List, [], Bool, false, true, arith, append-nil, inl, inr, length, refl, sym, ap}
use Rattle.std.specs.Prelude.{All, Contains, IsTrue, None}
use Rattle.std.specs.List.{flat_map}
use Rattle.std.specs.Fmt.{char_count, digits, padded_integral}
use Rattle.std.proofs.lemmas.List.Elements.{All-cons, All-nil}
use Rattle.access_types.specs.ReportText.{hex}
use Rattle.report_text.specs.Faults.{AreTrue, BeginsTruly, FalseReportAt, IsTrueTrace, false_line}
use Rattle.report_text.specs.Line.{line_text, spell_access, spell_arm, spell_origin, spell_race, spell_take}
use Rattle.report_text.specs.Standing.{Names, Stands, kind_place}
use Rattle.report_text.specs.TraceText.{Head, end_line, first, first_version, head_text, second, second_version, shape_line, trace_text}
use Rattle.report_text.specs.declared.line.Line.{Line}
use Rattle.report_text.specs.declared.line.Line.TheVariants as lines
use Rattle.access_types.specs.declared.report.Report.TheVariants.{Two}
use Rattle.worked_examples.specs.example_traces.Examples.{apart, hit_at, race_of, racing, read_from, taken_at, told, turns, write_from}
use Rattle.worked_examples.proofs.example_traces.Worked.{first_of_all, first_read, reads_name, second_of_all, then_write, they_race, writes_name}

-- a race line may stand after a read and a write
pub race_stands : (head : Head) (begin end from to : ℕ)
    → Stands head (lines.Access (read_from 0 begin end) ∷ lines.Access (write_from from to) ∷ []) (race_of 1)
race_stands head begin end from to = record {
  in_order = All-cons (λ (l : Line). kind_place l ≤ 3) (lines.Access (read_from 0 begin end)) (lines.Access (write_from from to) ∷ []) (omega arith)
      (All-cons (λ (l : Line). kind_place l ≤ 3) (lines.Access (write_from from to)) [] (omega arith) (All-nil _));
  content = (
    (read_from 0 begin end, reads_name (read_from 0 begin end) (write_from from to) [] refl),
    (write_from from to, writes_name (read_from 0 begin end) (write_from from to) [] refl),
  );
}

-- a read and a write with four stamps
two_true : (head : Head) (begin end from to : ℕ) → begin < end → end < 1000 → from < to → to < 1000
    → from ≢ begin → to ≢ end → from ≢ end → to ≢ begin
    → AreTrue head [] (lines.Access (read_from 0 begin end) ∷ lines.Access (write_from from to) ∷ [])
two_true head begin end from to h h' k k' a b c d = (
  first_of_all head (read_from 0 begin end) (first_read begin end h h'),
  tt,
  (second_of_all head (read_from 0 begin end) (write_from from to) (then_write begin end from to k k' a b c d), tt, tt),
)

pub racing_true : (head : Head) → AreTrue head [] racing
racing_true head = two_true head 0 3 1 2 (omega arith) (omega arith) (omega arith) (omega arith)
    (λ h. absurd (omega arith)) (λ h. absurd (omega arith)) (λ h. absurd (omega arith)) (λ h. absurd (omega arith))

pub apart_true : (head : Head) → AreTrue head [] apart
apart_true head = two_true head 0 1 2 3 (omega arith) (omega arith) (omega arith) (omega arith)
    (λ h. absurd (omega arith)) (λ h. absurd (omega arith)) (λ h. absurd (omega arith)) (λ h. absurd (omega arith))

pub version_1_true : IsTrueTrace (trace_text first (racing ++ race_of 1 ∷ [])) first (racing ++ race_of 1 ∷ [])
unfolding char_count digits padded_integral hex spell_access spell_arm spell_origin spell_race spell_take end_line first_version second_version shape_line
version_1_true = record {
  begins = record {
    within = omega arith;
    head_stands = tt;
    spelled = refl;
    lines_true = (
      first_of_all first (read_from 0 0 3) (first_read 0 3 (omega arith) (omega arith)),
      tt,
      (
        second_of_all first (read_from 0 0 3) (write_from 1 2)
            (then_write 0 3 1 2 (omega arith) (omega arith)
            (λ h. absurd (omega arith)) (λ h. absurd (omega arith)) (λ h. absurd (omega arith)) (λ h. absurd (omega arith))),
        tt,
        (
          race_stands first 0 3 1 2,
          (
            read_from 0 0 3,
            write_from 1 2,
            reads_name (read_from 0 0 3) (write_from 1 2) [] refl,
            writes_name (read_from 0 0 3) (write_from 1 2) [] refl,
            they_race 0 3 1 2 (omega arith) (omega arith),
          ),
          tt,
        ),
      ),
    );
  };
  end_true = tt;
}
