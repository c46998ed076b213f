-- How far a trace is true, and which line fails first.
use Rattle.std.proofs.Common.{◌≡◌, ◌∷◌, ◌++◌, ◌∙◌, ◌+◌, ◌<◌, ◌≤◌, ◌^◌, ℕ, List, [], Some, None, ap, append_assoc, append-nil, arith, length, length-append, refl, subst, sym}
use Rattle.std.specs.List.{flat_map}
use Rattle.std.proofs.lemmas.Grind.{flat_map-append}
use Rattle.report_text.specs.Faults.{AreTrue, BadTraceAt, BeginsTruly, BeginsWith, BeginsWithLine, FalseReportAt, HeadStands, false_end, false_line, goes_on, head_lines, next_line, no_line, no_shape, no_version, size_limit}
use Rattle.report_text.specs.Line.{line_text}
use Rattle.report_text.specs.Standing.{Stands}
use Rattle.report_text.specs.TraceText.{Head, end_line, first, head_text, second}
use Rattle.report_text.specs.Truth.{IsTrueEnd, IsTrueLine}
use Rattle.report_text.specs.declared.line.Line.{Line}
use Rattle.trace_replay.specs.trace_lines.FieldReaders.{past}
use Rattle.trace_replay.specs.trace_lines.HeadReading as heads
use Rattle.trace_replay.specs.trace_lines.HeadReading.{HeadFailsAt}
use Rattle.trace_replay.specs.trace_lines.LineReaders.{line_at}
use Rattle.trace_replay.specs.trace_lines.Plain.{IsPlainForm, KeepLimits, plain_line}
use Rattle.trace_replay.specs.trace_lines.Reading.{IsLineAt, Reads}
use Rattle.trace_replay.proofs.trace_lines.LineTexts.{line_there}
use Rattle.trace_replay.proofs.trace_lines.TrueBegins.{few_lines, has_bytes, keep_limits}
use Rattle.trace_replay.proofs.trace_lines.Words.{same_given}
use Rattle.trace_replay.specs.Answer.{IsAccepted, IsRefused, IsRefusedLine, accepted_of}
use Rattle.trace_replay.specs.declared.accepted.Accepted.{Accepted}
use Rattle.trace_replay.specs.declared.accepted.TraceError.{TraceError}
use Rattle.trace_replay.specs.declared.accepted.TraceError.TheVariants.{OutOfMemory, BadTrace, FalseReport}

-- ---- lines that are true

-- what may stand has a plain form with the same text that may
abbrev pub HavePlainForms : Type 0
HavePlainForms = (head : Head) (before : List Line) (line : Line) → HeadStands head → KeepLimits before
    → Stands head before line → IsPlainForm head before line (plain_line line)

true_push : (head : Head) (before all : List Line) (line : Line) → AreTrue head before all → Stands head (before ++ all) line
    → IsTrueLine head (before ++ all) line → AreTrue head before (all ++ line ∷ [])
true_push head before [] line h stands is_true = (
  subst (λ ls. Stands head ls line) (append-nil before) stands,
  subst (λ ls. IsTrueLine head ls line) (append-nil before) is_true,
  tt,
)
true_push head before (x ∷ all) line h stands is_true = (
  h.0,
  h.1,
  true_push head (before ++ x ∷ []) all line h.2
      (subst (λ ls. Stands head ls line) (sym (append_assoc before (x ∷ []) all)) stands)
      (subst (λ ls. IsTrueLine head ls line) (sym (append_assoc before (x ∷ []) all)) is_true),
)

-- one line more is true
pub one_line_more : (bytes : List ℕ) (head : Head) (all : List Line) (rest : List ℕ) (next : Line) (more : List ℕ)
    → BeginsTruly bytes head all rest → IsLineAt rest next more → Stands head all next → IsTrueLine head all next
    → BeginsTruly bytes head (all ++ next ∷ []) more
one_line_more bytes head all rest next more h is stands is_true = record {
  within = h.within;
  head_stands = h.head_stands;
  spelled = h.spelled ∙ ap (λ xs. head_text head ++ flat_map line_text all ++ xs) is.spelled
      ∙ sym (append_assoc (head_text head ++ flat_map line_text all) (line_text next) more)
      ∙ ap (λ xs. xs ++ more) (append_assoc (head_text head) (flat_map line_text all) (line_text next)
      ∙ ap (λ xs. head_text head ++ xs) (sym (flat_map-append line_text all (next ∷ [])
      ∙ ap (λ xs. flat_map line_text all ++ xs) (append-nil (line_text next)))));
  lines_true = true_push head [] all next h.lines_true stands is_true;
}

length_push : {X : Type 0} (xs : List X) (x : X) → length (xs ++ x ∷ []) ≡ length xs + 1
length_push [] x = refl
length_push (y ∷ xs) x = omega (arith, length_push xs x)

pub next_number : (head : Head) (all : List Line) (next : Line) (number : ℕ) → number ≡ next_line head all → number + 1 ≡ next_line head (all ++ next ∷ [])
next_number head all next number e = omega (arith, length_push all next)

-- ---- lines that fail

-- no line begins as the last line does
no_line_is_end : (more : List ℕ) → line_at (end_line ++ more) ≡ None
unfolding line_at past end_line
no_line_is_end more = refl

pub line_is_no_end : (rest : List ℕ) (next : Line) (more : List ℕ) → IsLineAt rest next more → ¬ BeginsWith end_line rest
line_is_no_end rest next more is ends =
    let read = line_there next more is.plain in
    let none = no_line_is_end ends.0 in
    let same : line_at (line_text next ++ more) ≡ line_at (end_line ++ ends.0) = ap line_at (sym is.spelled ∙ ends.1) in
    absurd cc

-- where no line is read, none that may stand does
pub none_begins : HavePlainForms → (bytes : List ℕ) (head : Head) (all : List Line) (rest : List ℕ) → BeginsTruly bytes head all rest
    → Reads (IsLineAt rest) None → ¬ BeginsWithLine head all rest
none_begins forms bytes head all rest h none begins =
    let form = forms head all begins.0 h.head_stands (keep_limits bytes head all rest h) begins.1 in
    let e = (none (plain_line begins.0) begins.2.0).0
    (record { plain = form.is; spelled = begins.2.1 ∙ ap (λ xs. xs ++ begins.2.0) (sym form.text) }) in
    absurd cc

-- where the line that is read may not stand, none that may stand does
pub none_stands : HavePlainForms → (bytes : List ℕ) (head : Head) (all : List Line) (rest : List ℕ) (next : Line) (more : List ℕ)
    → BeginsTruly bytes head all rest → Reads (IsLineAt rest) (Some (next, more)) → ¬ Stands head all next → ¬ BeginsWithLine head all rest
none_stands forms bytes head all rest next more h reads not begins =
    let form = forms head all begins.0 h.head_stands (keep_limits bytes head all rest h) begins.1 in
    let e = (reads (plain_line begins.0) begins.2.0).0
    (record { plain = form.is; spelled = begins.2.1 ∙ ap (λ xs. xs ++ begins.2.0) (sym form.text) }) in
    let same : next ≡ plain_line begins.0 =
    ap (λ (p : Line × List ℕ). p.0) (same_given (next, more) (plain_line begins.0, begins.2.0) e) in
    not (subst (Stands head all) (sym same) form.stands)

-- what is refused of a line is refused of the bytes
pub refused : HavePlainForms → (bytes : List ℕ) (head : Head) (all : List Line) (rest : List ℕ) (next : Line) (more : List ℕ) (number : ℕ) (error : TraceError)
    → BeginsTruly bytes head all rest → Reads (IsLineAt rest) (Some (next, more)) → number ≡ next_line head all
    → IsRefusedLine head all next number error → IsRefused bytes error
refused forms bytes head all rest next more number OutOfMemory h reads e fails = tt
refused forms bytes head all rest next more number (BadTrace line) h reads e fails = no_line head all rest h
    (none_stands forms bytes head all rest next more h reads fails.1)
    (line_is_no_end rest next more ((reads next more).1 refl)) (fails.0 ∙ e)
refused forms bytes head all rest next more number (FalseReport line) h reads e fails = false_line head all next more
    (subst (BeginsTruly bytes head all) ((reads next more).1 refl).spelled h) fails.1 fails.2 (fails.0 ∙ e)

-- ---- the end

pub at_no_end : (bytes : List ℕ) (head : Head) (all : List Line) (rest : List ℕ) (number : ℕ) → BeginsTruly bytes head all rest
    → ¬ BeginsWithLine head all rest → ¬ BeginsWith end_line rest → number ≡ next_line head all → BadTraceAt bytes number
at_no_end bytes head all rest number h none ends e = no_line head all rest h none ends e

pub at_false_end : (bytes : List ℕ) (head : Head) (all : List Line) (rest behind : List ℕ) (number : ℕ) → BeginsTruly bytes head all rest
    → rest ≡ end_line ++ behind → ¬ IsTrueEnd head all → number ≡ next_line head all → FalseReportAt bytes number
at_false_end bytes head all rest behind number h e not is = false_end head all behind (subst (BeginsTruly bytes head all) e h) not is

pub past_end : (bytes : List ℕ) (head : Head) (all : List Line) (rest behind : List ℕ) (number : ℕ) → BeginsTruly bytes head all rest
    → rest ≡ end_line ++ behind → 0 < length behind → IsTrueEnd head all → number ≡ next_line head all → BadTraceAt bytes (number + 1)
past_end bytes head all rest behind number h e some is_true is =
    goes_on head all behind (subst (BeginsTruly bytes head all) e h) is_true some (ap (λ n. n + 1) is)

pub at_end : (bytes : List ℕ) (head : Head) (all : List Line) (rest behind : List ℕ) (counts : Accepted) → BeginsTruly bytes head all rest
    → rest ≡ end_line ++ behind → length behind ≡ 0 → IsTrueEnd head all → counts ≡ accepted_of head all → IsAccepted bytes counts
at_end bytes head all rest [] counts h e short is_true is = record {
  head = head;
  all = all;
  is_true = record { begins = subst (BeginsTruly bytes head all) (e ∙ append-nil end_line) h; end_true = is_true };
  counts_are = is;
}
at_end bytes head all rest (b ∷ behind) counts h e short is_true is = absurd (omega arith)

-- behind a head there are no lines yet
pub begun : (head : Head) (bytes : List ℕ) → length (head_text head ++ bytes) ≤ size_limit → HeadStands head
    → BeginsTruly (head_text head ++ bytes) head [] bytes
begun head bytes within stands = record {
  within = within;
  head_stands = stands;
  spelled = ap (λ xs. xs ++ bytes) (sym (append-nil (head_text head)));
  lines_true = tt;
}

pub shorter : (rest : List ℕ) (next : Line) (more : List ℕ) → IsLineAt rest next more → length more < length rest
shorter rest next more is =
    let size : length rest ≡ length (line_text next ++ more) = ap length is.spelled in
    omega (arith, length-append (line_text next) more, has_bytes next)

-- the head fails
pub head_fails : (bytes : List ℕ) (number : ℕ) → length bytes ≤ size_limit → HeadFailsAt bytes number → BadTraceAt bytes number
head_fails bytes number within (heads.no_version one two is) = no_version within one two is
head_fails bytes number within (heads.no_shape rest begins none is) = no_shape rest within begins none is

two_head_lines : (head : Head) → head_lines head ≤ 2
two_head_lines first = omega arith
two_head_lines (second slots layout) = omega arith

-- numbers of lines stay low
pub low_number : (bytes : List ℕ) (head : Head) (all : List Line) (rest : List ℕ) (number : ℕ) → BeginsTruly bytes head all rest
    → number ≡ next_line head all → number < 2 ^ 32
low_number bytes head all rest number h e = omega (arith, two_head_lines head, few_lines bytes head all rest h)
