-- The lines with which a trace truly begins keep the limits.
use Rattle.std.proofs.Common.{◌≡◌, ◌∷◌, ◌++◌, ◌≤◌, ℕ, List, [], ap, arith, length, length-append}
use Rattle.std.specs.Prelude.{All}
use Rattle.std.specs.List.{flat_map}
use Rattle.std.proofs.lemmas.List.Elements.{All-cons, All-contains, All-nil}
use Rattle.access_types.specs.Access.{IsInLimits}
use Rattle.access_types.specs.declared.report.Report.TheVariants.{Two, Unknown}
use Rattle.report_text.specs.Faults.{AreTrue, BeginsTruly, size_limit}
use Rattle.report_text.specs.Line.{line_text, spell_access, spell_arm, spell_origin, spell_race, spell_take}
use Rattle.report_text.specs.Standing.{accesses_of, arms_of}
use Rattle.report_text.specs.TraceText.{Head, head_text}
use Rattle.report_text.specs.declared.line.Line.{Line}
use Rattle.report_text.specs.declared.line.Line.TheVariants as lines
use Rattle.trace_replay.specs.trace_lines.Plain.{KeepLimits}

in_limits : (head : Head) (before all : List Line) → AreTrue head before all → All (λ s. IsInLimits s.access) (accesses_of all)
in_limits head before [] h = All-nil (λ s. IsInLimits s.access)
in_limits head before (lines.Access s ∷ all) h =
    All-cons (λ s. IsInLimits s.access) s (accesses_of all) h.0.content.limits (in_limits head (before ++ lines.Access s ∷ []) all h.2)
in_limits head before (lines.Arm a ∷ all) h = in_limits head (before ++ lines.Arm a ∷ []) all h.2
in_limits head before (lines.Take t ∷ all) h = in_limits head (before ++ lines.Take t ∷ []) all h.2
in_limits head before (lines.Report r ∷ all) h = in_limits head (before ++ lines.Report r ∷ []) all h.2

pub arms_within : (all : List Line) → length (arms_of all) ≤ length all
arms_within [] = omega arith
arms_within (lines.Access s ∷ all) = omega (arith, arms_within all)
arms_within (lines.Arm a ∷ all) = omega (arith, arms_within all)
arms_within (lines.Take t ∷ all) = omega (arith, arms_within all)
arms_within (lines.Report r ∷ all) = omega (arith, arms_within all)

pub has_bytes : (line : Line) → 1 ≤ length (line_text line)
unfolding spell_access spell_arm spell_take spell_race spell_origin
has_bytes (lines.Access s) = omega (arith, length-append {A = ℕ})
has_bytes (lines.Arm a) = omega (arith, length-append {A = ℕ})
has_bytes (lines.Take t) = omega (arith, length-append {A = ℕ})
has_bytes (lines.Report (Two setter finder seen)) = omega (arith, length-append {A = ℕ})
has_bytes (lines.Report (Unknown setter old new)) = omega (arith, length-append {A = ℕ})

lines_within : (all : List Line) → length all ≤ length (flat_map line_text all)
lines_within [] = omega arith
lines_within (line ∷ all) = omega (arith, length-append (line_text line) (flat_map line_text all), has_bytes line, lines_within all)

-- there are no more lines than bytes
pub few_lines : (bytes : List ℕ) (head : Head) (all : List Line) (rest : List ℕ) → BeginsTruly bytes head all rest → length all ≤ size_limit
few_lines bytes head all rest h =
    let within = h.within in
    let size : length bytes ≡ length (head_text head ++ flat_map line_text all ++ rest) = ap length h.spelled in
    omega (arith, lines_within all, length-append (head_text head ++ flat_map line_text all) rest, length-append (head_text head) (flat_map line_text all))

pub keep_limits : (bytes : List ℕ) (head : Head) (all : List Line) (rest : List ℕ) → BeginsTruly bytes head all rest → KeepLimits all
keep_limits bytes head all rest h = record {
  accesses = λ s inside. All-contains (λ s. IsInLimits s.access) (accesses_of all) s (in_limits head [] all h.lines_true) inside;
  arms = omega (arith, arms_within all, few_lines bytes head all rest h);
}
