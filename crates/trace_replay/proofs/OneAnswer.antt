-- Bytes have one answer.
use Rattle.std.proofs.Common.{◌≡◌, ◌∷◌, ◌++◌, ◌∙◌, ◌+◌, ◌<◌, ◌≤◌, ℕ, List, [], Option, Some, None}
use Rattle.std.proofs.Common.{ap, append_assoc, append-nil, arith, length, map, refl, suc, subst, sym, ◌⊎◌, inl, inr, length-append}
use Rattle.std.specs.Prelude.{◌↔◌, Contains, Err, IfErr, IfOk, Ok, Result}
use Rattle.std.specs.List.{flat_map}
use Rattle.std.proofs.lemmas.List.{append_cancel_left}
use Rattle.std.proofs.lemmas.List.Elements.{Contains-append_left}
use Rattle.access_types.specs.Access.{proper_mask}
use Rattle.access_types.specs.Stamped.{Stamped}
use Rattle.access_types.specs.declared.kind.Kind.{Kind}
use Rattle.access_types.specs.declared.kind.Kind.TheVariants.{Plain, Marked, Assert, AssertScoped}
use Rattle.watch_word.specs.declared.layout.Layout.{Layout}
use Rattle.access_types.specs.declared.report.Report.TheVariants.{Two, Unknown}
use Rattle.report_text.specs.Faults.{AreTrue, BeginsTruly, BeginsWith, BeginsWithLine, BeginsWithShape, HeadStands, MayHaveSlots, false_end, false_line, goes_on, next_line, no_line, no_shape, no_version, size_limit, too_long}
use Rattle.report_text.specs.Line.{line_text}
use Rattle.report_text.specs.Standing.{Stands, accesses_of, arms_of, reports_of, takes_of}
use Rattle.report_text.specs.TraceText.{Head, end_line, first, first_version, head_text, second, second_version, shape_line}
use Rattle.report_text.specs.Truth.{IsTrueEnd, IsTrueLine}
use Rattle.report_text.specs.declared.line.Line.{Line}
use Rattle.report_text.specs.declared.line.Line.TheVariants as lines
use Rattle.report_text.proofs.TrueLines.{accesses-append}
use Rattle.trace_replay.specs.trace_lines.FieldReaders.{past}
use Rattle.trace_replay.specs.trace_lines.HeadReading.{shape_at}
use Rattle.trace_replay.specs.trace_lines.LineReaders.{line_at}
use Rattle.trace_replay.specs.trace_lines.Plain.{KeepLimits, plain_access, plain_line, without_scope}
use Rattle.trace_replay.specs.trace_lines.Reading.{IsPlain}
use Rattle.trace_replay.specs.declared.trace_lines.head.Shape.{Shape}
use Rattle.trace_replay.proofs.trace_lines.HeadTexts.{shape_there}
use Rattle.trace_replay.proofs.trace_lines.LineTexts.{line_there, mask_kept}
use Rattle.trace_replay.proofs.trace_lines.PlainForms.{access_text, form}
use Rattle.trace_replay.proofs.trace_lines.PlainTruth.{all_to, end_from, end_to, stands_from, stands_to, true_from}
use Rattle.trace_replay.proofs.trace_lines.TrueBegins.{keep_limits}
use Rattle.trace_replay.proofs.trace_lines.Words.{past_there, same_given}
use Rattle.trace_replay.specs.Answer.{IsAccepted, IsAnswerTo, IsRefused, accepted_of}
use Rattle.trace_replay.specs.declared.accepted.Accepted.{Accepted}
use Rattle.trace_replay.specs.declared.accepted.TraceError.{TraceError}
use Rattle.trace_replay.specs.declared.accepted.TraceError.TheVariants.{OutOfMemory, BadTrace, FalseReport}
use Rattle.trace_replay.proofs.FirstFailingLine.{line_is_no_end}
use Rattle.report_text.proofs.TrueLines.{arms-append}

abbrev Answered : Type 0
Answered = Result Accepted TraceError

-- ---- lines in their plain form

scope_again : (kind : Kind) → without_scope (without_scope kind) ≡ without_scope kind
scope_again (Plain operation) = refl
scope_again (Marked operation) = refl
scope_again (Assert claim) = refl
scope_again (AssertScoped claim) = refl

mask_again : (mask : Option ℕ) → proper_mask (proper_mask mask) ≡ proper_mask mask
mask_again None = refl
mask_again (Some mask) = (mask_kept mask).0

no_first : (more : List ℕ) → past first_version (second_version ++ more) ≡ None
unfolding past first_version second_version
no_first more = refl

plain_text : (line : Line) → line_text (plain_line line) ≡ line_text line
plain_text (lines.Access s) = access_text s
plain_text (lines.Arm a) = refl
plain_text (lines.Take t) = refl
plain_text (lines.Report (Two setter finder seen)) = refl
plain_text (lines.Report (Unknown setter old new)) = refl

plain_texts : (all : List Line) → flat_map line_text (map plain_line all) ≡ flat_map line_text all
plain_texts [] = refl
plain_texts (line ∷ all) = rw (plain_text line, plain_texts all)

plain_counts : (all : List Line) → (length (accesses_of (map plain_line all)) ≡ length (accesses_of all))
    × (length (arms_of (map plain_line all)) ≡ length (arms_of all))
    × (length (takes_of (map plain_line all)) ≡ length (takes_of all))
    × (length (reports_of (map plain_line all)) ≡ length (reports_of all))
plain_counts [] = (refl, refl, refl, refl)
plain_counts (lines.Access s ∷ all) = let more = plain_counts all in (ap suc more.0, more.1, more.2, more.3)
plain_counts (lines.Arm a ∷ all) = let more = plain_counts all in (more.0, ap suc more.1, more.2, more.3)
plain_counts (lines.Take t ∷ all) = let more = plain_counts all in (more.0, more.1, ap suc more.2, more.3)
plain_counts (lines.Report r ∷ all) = let more = plain_counts all in (more.0, more.1, more.2, ap suc more.3)

plain_accepted : (head : Head) (all : List Line) → accepted_of head (map plain_line all) ≡ accepted_of head all
plain_accepted first all = let same = plain_counts all in rw (same.0, same.3)
plain_accepted (second slots layout) all = let same = plain_counts all in rw (same.0, same.1, same.2, same.3)

plain_length : (all : List Line) → length (map plain_line all) ≡ length all
plain_length [] = refl
plain_length (line ∷ all) = ap suc (plain_length all)

plain_number : (head : Head) (all : List Line) → next_line head (map plain_line all) ≡ next_line head all
plain_number head all = omega (arith, plain_length all)

ArePlain : List Line → Type 0
ArePlain [] = Unit {0}
ArePlain (line ∷ all) = IsPlain line × ArePlain all

front_within : (before all : List Line) → KeepLimits (before ++ all) → KeepLimits before
front_within before all keeps = record {
  accesses = λ s inside. keeps.accesses s (subst (λ xs. Contains xs s) (sym (accesses-append before all))
      (Contains-append_left (accesses_of before) (accesses_of all) s inside));
  arms = let few = keeps.arms in omega (arith, ap length (arms-append before all), length-append (arms_of before) (arms_of all));
}

are_plain : (head : Head) (before all : List Line) → HeadStands head → KeepLimits (before ++ all) → AreTrue head before all → ArePlain (map plain_line all)
unfolding ArePlain
are_plain head before [] may keeps h = tt
are_plain head before (line ∷ all) may keeps h = (
  (form head before line may (front_within before (line ∷ all) keeps) h.0).is,
  are_plain head (before ++ line ∷ []) all may (subst KeepLimits (sym (append_assoc before (line ∷ []) all)) keeps) h.2,
)

-- ---- where reading stops

-- no line stands at the front of the rest that may stand there and is true
Stops : Head → List Line → List ℕ → Type 0
Stops head all rest = (line : Line) (more : List ℕ) → IsPlain line → Stands head all line → IsTrueLine head all line → rest ≡ line_text line ++ more → ⊥

same_pair : (one other : Line) (rest more : List ℕ) → ◌≡◌ {A = Line × List ℕ} (one, rest) (other, more) → (one ≡ other) × (rest ≡ more)
same_pair one other rest more e = (ap (λ (p : Line × List ℕ). p.0) e, ap (λ (p : Line × List ℕ). p.1) e)

same_line : (one other : Line) (rest more : List ℕ) → IsPlain one → IsPlain other → line_text one ++ rest ≡ line_text other ++ more
    → (one ≡ other) × (rest ≡ more)
same_line one other rest more is_one is_other same = same_pair one other rest more (same_given (one, rest) (other, more)
    (sym (line_there one rest is_one) ∙ ap line_at same ∙ line_there other more is_other))

-- two that stop at the same bytes stop at one place
meet : (head : Head) (before all others : List Line) (rest more : List ℕ) → ArePlain all → ArePlain others
    → flat_map line_text all ++ rest ≡ flat_map line_text others ++ more → AreTrue head before all → AreTrue head before others
    → Stops head (before ++ all) rest → Stops head (before ++ others) more → (all ≡ others) × (rest ≡ more)
unfolding ArePlain Stops
meet head before [] [] rest more p q e h k s t = (refl, e)
meet head before [] (line ∷ others) rest more p q e h k s t = absurd (s line (flat_map line_text others ++ more) q.0
    (subst (λ ls. Stands head ls line) (sym (append-nil before)) k.0) (subst (λ ls. IsTrueLine head ls line) (sym (append-nil before)) k.1)
    (e ∙ append_assoc (line_text line) (flat_map line_text others) more))
meet head before (line ∷ all) [] rest more p q e h k s t = absurd (t line (flat_map line_text all ++ rest) p.0
    (subst (λ ls. Stands head ls line) (sym (append-nil before)) h.0) (subst (λ ls. IsTrueLine head ls line) (sym (append-nil before)) h.1)
    (sym e ∙ append_assoc (line_text line) (flat_map line_text all) rest))
meet head before (line ∷ all) (other ∷ others) rest more p q e h k s t =
    let same = same_line line other (flat_map line_text all ++ rest) (flat_map line_text others ++ more) p.0 q.0
    (sym (append_assoc (line_text line) (flat_map line_text all) rest) ∙ e ∙ append_assoc (line_text other) (flat_map line_text others) more) in
    let on = meet head (before ++ line ∷ []) all others rest more p.1 q.1 same.1 h.2
    (subst (λ l. AreTrue head (before ++ l ∷ []) others) (sym same.0) k.2)
    (subst (λ ls. Stops head ls rest) (sym (append_assoc before (line ∷ []) all)) s)
    (subst (λ l. Stops head ((before ++ l ∷ []) ++ others) more) (sym same.0) (subst (λ ls. Stops head ls more) (sym (append_assoc before (other ∷ []) others)) t)) in
    (ap (λ l. l ∷ all) same.0 ∙ ap (λ ls. other ∷ ls) on.0, on.1)

-- ---- the answer behind true lines

data Final (head : Head) (all : List Line) (rest : List ℕ) (answer : Answered) : Type 0 where
  nothing : ¬ BeginsWithLine head all rest → ¬ BeginsWith end_line rest → answer ≡ Err (BadTrace (next_line head all)) → Final head all rest answer
  beyond : (more : List ℕ) → rest ≡ end_line ++ more → 0 < length more → IsTrueEnd head all
      → answer ≡ Err (BadTrace (next_line head all + 1)) → Final head all rest answer
  untrue : (line : Line) (more : List ℕ) → IsPlain line → rest ≡ line_text line ++ more → Stands head all line → ¬ IsTrueLine head all line
      → answer ≡ Err (FalseReport (next_line head all)) → Final head all rest answer
  untrue_end : (more : List ℕ) → rest ≡ end_line ++ more → ¬ IsTrueEnd head all
      → answer ≡ Err (FalseReport (next_line head all)) → Final head all rest answer
  complete : rest ≡ end_line ++ [] → IsTrueEnd head all → answer ≡ Ok (accepted_of head all) → Final head all rest answer

no_end : (line : Line) (more behind rest : List ℕ) → IsPlain line → rest ≡ line_text line ++ more → rest ≡ end_line ++ behind → ⊥
no_end line more behind rest is one other = line_is_no_end rest line more (record { plain = is; spelled = one }) (behind, other)

stops : (head : Head) (all : List Line) (rest : List ℕ) (answer : Answered) → Final head all rest answer → Stops head all rest
unfolding Stops
stops head all rest answer (nothing none ends is) = λ line more plain stands is_true e. none (line, stands, (more, e))
stops head all rest answer (beyond behind at some true_end is) = λ line more plain stands is_true e. no_end line more behind rest plain e at
stops head all rest answer (untrue other behind other_plain at other_stands not is) = λ line more plain stands is_true e.
    not (subst (IsTrueLine head all) (same_line line other more behind plain other_plain (sym e ∙ at)).0 is_true)
stops head all rest answer (untrue_end behind at not is) = λ line more plain stands is_true e. no_end line more behind rest plain e at
stops head all rest answer (complete at true_end is) = λ line more plain stands is_true e. no_end line more [] rest plain e at

same_end : (rest more behind : List ℕ) → rest ≡ end_line ++ more → rest ≡ end_line ++ behind → more ≡ behind
same_end rest more behind one other = append_cancel_left end_line more behind (sym one ∙ other)

not_empty : (more : List ℕ) → 0 < length more → more ≡ [] → ⊥
not_empty more some e = let none : length more ≡ 0 = ap length e in omega arith

one_final : (head : Head) (all : List Line) (rest : List ℕ) (one other : Answered) → Final head all rest one → Final head all rest other → one ≡ other
one_final head all rest one other (nothing a b is) (nothing c d is_other) = is ∙ sym is_other
one_final head all rest one other (nothing a b is) (beyond more at some true_end is_other) = absurd (b (more, at))
one_final head all rest one other (nothing a b is) (untrue line more plain at stands not is_other) = absurd (a (line, stands, (more, at)))
one_final head all rest one other (nothing a b is) (untrue_end more at not is_other) = absurd (b (more, at))
one_final head all rest one other (nothing a b is) (complete at true_end is_other) = absurd (b ([], at))
one_final head all rest one other (beyond more at some true_end is) (nothing a b is_other) = absurd (b (more, at))
one_final head all rest one other (beyond more at some true_end is) (beyond behind at_other some_other true_other is_other) = is ∙ sym is_other
one_final head all rest one other (beyond more at some true_end is) (untrue line behind plain at_other stands not is_other) =
    absurd (no_end line behind more rest plain at_other at)
one_final head all rest one other (beyond more at some true_end is) (untrue_end behind at_other not is_other) = absurd (not true_end)
one_final head all rest one other (beyond more at some true_end is) (complete at_other true_other is_other) =
    absurd (not_empty more some (same_end rest more [] at at_other))
one_final head all rest one other (untrue line more plain at stands not is) (nothing a b is_other) = absurd (a (line, stands, (more, at)))
one_final head all rest one other (untrue line more plain at stands not is) (beyond behind at_other some true_end is_other) =
    absurd (no_end line more behind rest plain at at_other)
one_final head all rest one other (untrue line more plain at stands not is) (untrue a b c d e f is_other) = is ∙ sym is_other
one_final head all rest one other (untrue line more plain at stands not is) (untrue_end behind at_other not_other is_other) = is ∙ sym is_other
one_final head all rest one other (untrue line more plain at stands not is) (complete at_other true_end is_other) =
    absurd (no_end line more [] rest plain at at_other)
one_final head all rest one other (untrue_end more at not is) (nothing a b is_other) = absurd (b (more, at))
one_final head all rest one other (untrue_end more at not is) (beyond behind at_other some true_end is_other) = absurd (not true_end)
one_final head all rest one other (untrue_end more at not is) (untrue a b c d e f is_other) = is ∙ sym is_other
one_final head all rest one other (untrue_end more at not is) (untrue_end behind at_other not_other is_other) = is ∙ sym is_other
one_final head all rest one other (untrue_end more at not is) (complete at_other true_end is_other) = absurd (not true_end)
one_final head all rest one other (complete at true_end is) (nothing a b is_other) = absurd (b ([], at))
one_final head all rest one other (complete at true_end is) (beyond behind at_other some true_other is_other) =
    absurd (not_empty behind some (same_end rest behind [] at_other at))
one_final head all rest one other (complete at true_end is) (untrue line more plain at_other stands not is_other) =
    absurd (no_end line more [] rest plain at_other at)
one_final head all rest one other (complete at true_end is) (untrue_end behind at_other not is_other) = absurd (not true_end)
one_final head all rest one other (complete at true_end is) (complete at_other true_other is_other) = is ∙ sym is_other

-- ---- the answer to bytes

-- true lines in their plain form, and the answer behind them
record Behind (bytes : List ℕ) (answer : Answered) (head : Head) (all : List Line) (rest : List ℕ) : Type 0 where
  within : length bytes ≤ size_limit
  stands : HeadStands head
  spelled : bytes ≡ head_text head ++ (flat_map line_text all ++ rest)
  plain : ArePlain all
  are_true : AreTrue head [] all
  final : Final head all rest answer

data Cases (bytes : List ℕ) (answer : Answered) : Type 0 where
  long : size_limit < length bytes → answer ≡ Err (BadTrace 0) → Cases bytes answer
  unversioned : length bytes ≤ size_limit → ¬ BeginsWith first_version bytes → ¬ BeginsWith second_version bytes
      → answer ≡ Err (BadTrace 1) → Cases bytes answer
  unshaped : (rest : List ℕ) → length bytes ≤ size_limit → bytes ≡ second_version ++ rest → ¬ BeginsWithShape rest
      → answer ≡ Err (BadTrace 2) → Cases bytes answer
  behind : (head : Head) (all : List Line) (rest : List ℕ) → Behind bytes answer head all rest → Cases bytes answer

-- what begins truly does so in plain form
behind_plain : (bytes : List ℕ) (answer : Answered) (head : Head) (all : List Line) (rest : List ℕ) → BeginsTruly bytes head all rest
    → Final head (map plain_line all) rest answer → Cases bytes answer
behind_plain bytes answer head all rest h final = behind head (map plain_line all) rest (record {
  within = h.within;
  stands = h.head_stands;
  spelled = h.spelled ∙ append_assoc (head_text head) (flat_map line_text all) rest
      ∙ ap (λ xs. head_text head ++ (xs ++ rest)) (sym (plain_texts all));
  plain = are_plain head [] all h.head_stands (keep_limits bytes head all rest h) h.lines_true;
  are_true = all_to head [] all h.lines_true;
  final = final;
})

-- a line that may stand behind plain lines has a plain form that may
line_plain : (bytes : List ℕ) (head : Head) (all : List Line) (rest : List ℕ) (line : Line) → BeginsTruly bytes head all rest
    → Stands head all line → IsPlain (plain_line line)
line_plain bytes head all rest line h stands = (form head all line h.head_stands (keep_limits bytes head all rest h) stands).is

access_again : (s : Stamped) → plain_access (plain_access s) ≡ plain_access s
access_again s = rw (scope_again s.access.kind, mask_again s.access.mask)

plain_again : (line : Line) → plain_line (plain_line line) ≡ plain_line line
plain_again (lines.Access s) = ap (λ t. lines.Access t) (access_again s)
plain_again (lines.Arm a) = refl
plain_again (lines.Take t) = refl
plain_again (lines.Report (Two setter finder seen)) = refl
plain_again (lines.Report (Unknown setter old new)) = refl

all_again : (all : List Line) → map plain_line (map plain_line all) ≡ map plain_line all
all_again [] = refl
all_again (line ∷ all) = rw (plain_again line, all_again all)

stands_behind : (head : Head) (all : List Line) (line : Line) → Stands head (map plain_line all) line → Stands head all line
stands_behind head all line h = stands_from head all line
    (subst (λ ls. Stands head ls (plain_line line)) (all_again all) (stands_to head (map plain_line all) line h))

-- no line that may stand behind plain lines begins the rest, if none does behind the lines
none_plain : (head : Head) (all : List Line) (rest : List ℕ) → ¬ BeginsWithLine head all rest → ¬ BeginsWithLine head (map plain_line all) rest
none_plain head all rest none begins = none (begins.0, stands_behind head all begins.0 begins.1, begins.2)

heads_apart : (rest more : List ℕ) → first_version ++ rest ≡ second_version ++ more → ⊥
heads_apart rest more e =
    let there = past_there first_version rest in
    let none = no_first more in
    let same : past first_version (first_version ++ rest) ≡ past first_version (second_version ++ more) = ap (past first_version) e in
    absurd cc

shapes_same : (slots others : ℕ) (layout other : Layout) (rest more : List ℕ) → MayHaveSlots slots → MayHaveSlots others
    → shape_line slots layout ++ rest ≡ shape_line others other ++ more → (second slots layout ≡ second others other) × (rest ≡ more)
shapes_same slots others layout other rest more may may_other e =
    let one : Shape = record { slots = slots; layout = layout } in
    let two : Shape = record { slots = others; layout = other } in
    let same : ◌≡◌ {A = Shape × List ℕ} (one, rest) (two, more) = same_given (one, rest) (two, more)
    (sym (shape_there one rest may) ∙ ap shape_at e ∙ shape_there two more may_other) in
    (ap (λ (p : Shape × List ℕ). second p.0.slots p.0.layout) same, ap (λ (p : Shape × List ℕ). p.1) same)

heads_same : (one other : Head) (rest more : List ℕ) → HeadStands one → HeadStands other → head_text one ++ rest ≡ head_text other ++ more
    → (one ≡ other) × (rest ≡ more)
heads_same first first rest more h k e = (refl, append_cancel_left first_version rest more e)
heads_same first (second slots layout) rest more h k e =
    absurd (heads_apart rest (shape_line slots layout ++ more) (e ∙ append_assoc second_version (shape_line slots layout) more))
heads_same (second slots layout) first rest more h k e =
    absurd (heads_apart more (shape_line slots layout ++ rest) (sym e ∙ append_assoc second_version (shape_line slots layout) rest))
heads_same (second slots layout) (second others other) rest more h k e = shapes_same slots others layout other rest more h k
    (append_cancel_left second_version _ _
    (sym (append_assoc second_version (shape_line slots layout) rest) ∙ e ∙ append_assoc second_version (shape_line others other) more))

-- ---- what the answer is

false_plain : (bytes : List ℕ) (head : Head) (all : List Line) (line : Line) (more : List ℕ) (number : ℕ) → BeginsTruly bytes head all (line_text line ++ more)
    → Stands head all line → ¬ IsTrueLine head all line → number ≡ next_line head all → Cases bytes (Err (FalseReport number))
false_plain bytes head all line more number h stands not is =
    behind_plain bytes (Err (FalseReport number)) head all (line_text line ++ more) h
    (untrue (plain_line line) more (line_plain bytes head all (line_text line ++ more) line h stands) (ap (λ xs. xs ++ more) (sym (plain_text line)))
    (stands_to head all line stands) (λ t. not (true_from head all line t))
    (ap (λ n. Err (FalseReport n)) (is ∙ sym (plain_number head all))))

cases : (bytes : List ℕ) (answer : Answered) → IsAnswerTo bytes answer → Cases bytes answer
cases bytes (Ok counts) h = behind_plain bytes (Ok counts) h.head h.all end_line h.is_true.begins
    (complete (sym (append-nil end_line)) (end_to h.head h.all h.is_true.end_true)
    (ap (λ (n : Accepted). Ok n) (h.counts_are ∙ sym (plain_accepted h.head h.all))))
cases bytes (Err OutOfMemory) h = absurd h
cases bytes (Err (BadTrace number)) (too_long over is) = long over (ap (λ n. Err (BadTrace n)) is)
cases bytes (Err (BadTrace number)) (no_version within one two is) = unversioned within one two (ap (λ n. Err (BadTrace n)) is)
cases bytes (Err (BadTrace number)) (no_shape rest within e none is) = unshaped rest within e none (ap (λ n. Err (BadTrace n)) is)
cases bytes (Err (BadTrace number)) (no_line head all rest h none ends is) = behind_plain bytes (Err (BadTrace number)) head all rest h
    (nothing (none_plain head all rest none) ends (ap (λ n. Err (BadTrace n)) (is ∙ sym (plain_number head all))))
cases bytes (Err (BadTrace number)) (goes_on head all more h true_end some is) = behind_plain bytes (Err (BadTrace number)) head all (end_line ++ more) h
    (beyond more refl some (end_to head all true_end) (ap (λ n. Err (BadTrace n)) (is ∙ ap (λ n. n + 1) (sym (plain_number head all)))))
cases bytes (Err (FalseReport number)) (false_line head all line more h stands not is) = false_plain bytes head all line more number h stands not is
cases bytes (Err (FalseReport number)) (false_end head all more h not is) = behind_plain bytes (Err (FalseReport number)) head all (end_line ++ more) h
    (untrue_end more refl (λ t. not (end_from head all t)) (ap (λ n. Err (FalseReport n)) (is ∙ sym (plain_number head all))))

-- ---- two answers

begins_first : (bytes rest : List ℕ) (head : Head) → bytes ≡ head_text head ++ rest → BeginsWith first_version bytes ⊎ BeginsWith second_version bytes
begins_first bytes rest first e = inl (rest, e)
begins_first bytes rest (second slots layout) e =
    inr (shape_line slots layout ++ rest, e ∙ append_assoc second_version (shape_line slots layout) rest)

no_head : (bytes : List ℕ) (answer : Answered) (head : Head) (all : List Line) (rest : List ℕ) → Behind bytes answer head all rest
    → ¬ BeginsWith first_version bytes → ¬ BeginsWith second_version bytes → ⊥
no_head bytes answer head all rest h one two =
    elim (begins_first bytes (flat_map line_text all ++ rest) head h.spelled) [ inl a ↦ one a | inr b ↦ two b ]

no_second : (bytes left : List ℕ) (answer : Answered) (head : Head) (all : List Line) (rest : List ℕ) → Behind bytes answer head all rest
    → bytes ≡ second_version ++ left → ¬ BeginsWithShape left → ⊥
no_second bytes left answer first all rest h e none = heads_apart (flat_map line_text all ++ rest) left (sym h.spelled ∙ e)
no_second bytes left answer (second slots layout) all rest h e none = none (
  slots,
  layout,
  h.stands,
  (
    flat_map line_text all ++ rest,
    append_cancel_left second_version _ _
        (sym e ∙ h.spelled ∙ append_assoc second_version (shape_line slots layout) (flat_map line_text all ++ rest)),
  ),
)

over_limit : (bytes : List ℕ) → size_limit < length bytes → length bytes ≤ size_limit → ⊥
over_limit bytes over within = omega arith

meeting : (bytes : List ℕ) (one other : Answered) (head : Head) (all others : List Line) (rest more : List ℕ) → Behind bytes one head all rest
    → Behind bytes other head others more → flat_map line_text all ++ rest ≡ flat_map line_text others ++ more → one ≡ other
meeting bytes one other head all others rest more h k e =
    let same = meet head [] all others rest more h.plain k.plain e h.are_true k.are_true
    (stops head all rest one h.final) (stops head others more other k.final) in
    one_final head all rest one other h.final
    (subst (λ ls. Final head ls rest other) (sym same.0) (subst (λ xs. Final head others xs other) (sym same.1) k.final))

both_behind : (bytes : List ℕ) (one other : Answered) (head heads : Head) (all others : List Line) (rest more : List ℕ) → Behind bytes one head all rest
    → Behind bytes other heads others more → one ≡ other
both_behind bytes one other head heads all others rest more h k =
    let same = heads_same head heads (flat_map line_text all ++ rest) (flat_map line_text others ++ more) h.stands k.stands (sym h.spelled ∙ k.spelled) in
    meeting bytes one other head all others rest more h (subst (λ d. Behind bytes other d others more) (sym same.0) k) same.1

one_case : (bytes : List ℕ) (one other : Answered) → Cases bytes one → Cases bytes other → one ≡ other
one_case bytes one other (long over is) (long k is_other) = is ∙ sym is_other
one_case bytes one other (long over is) (unversioned within a b is_other) = absurd (over_limit bytes over within)
one_case bytes one other (long over is) (unshaped rest within e none is_other) = absurd (over_limit bytes over within)
one_case bytes one other (long over is) (behind head all rest h) = absurd (over_limit bytes over h.within)
one_case bytes one other (unversioned within a b is) (long over is_other) = absurd (over_limit bytes over within)
one_case bytes one other (unversioned within a b is) (unversioned c d e is_other) = is ∙ sym is_other
one_case bytes one other (unversioned within a b is) (unshaped rest w e none is_other) = absurd (b (rest, e))
one_case bytes one other (unversioned within a b is) (behind head all rest h) = absurd (no_head bytes other head all rest h a b)
one_case bytes one other (unshaped rest within e none is) (long over is_other) = absurd (over_limit bytes over within)
one_case bytes one other (unshaped rest within e none is) (unversioned w a b is_other) = absurd (b (rest, e))
one_case bytes one other (unshaped rest within e none is) (unshaped r w f n is_other) = is ∙ sym is_other
one_case bytes one other (unshaped rest within e none is) (behind head all more h) = absurd (no_second bytes rest other head all more h e none)
one_case bytes one other (behind head all rest h) (long over is_other) = absurd (over_limit bytes over h.within)
one_case bytes one other (behind head all rest h) (unversioned within a b is_other) = absurd (no_head bytes one head all rest h a b)
one_case bytes one other (behind head all rest h) (unshaped more w e none is_other) = absurd (no_second bytes more one head all rest h e none)
one_case bytes one other (behind head all rest h) (behind heads others more k) = both_behind bytes one other head heads all others rest more h k

pub one_answer : (bytes : List ℕ) (one other : Result Accepted TraceError) → IsAnswerTo bytes one → IsAnswerTo bytes other → one ≡ other
one_answer bytes one other h k = one_case bytes one other (cases bytes one h) (cases bytes other k)

-- what is answered holds, and nothing else does
holds : (bytes : List ℕ) (result : Answered) → IfOk result (IsAccepted bytes) → IfErr result (IsRefused bytes) → (result ≡ Err OutOfMemory → ⊥) → IsAnswerTo bytes result
holds bytes (Ok counts) accepted refused memory = accepted
holds bytes (Err OutOfMemory) accepted refused memory = absurd (memory refl)
holds bytes (Err (BadTrace line)) accepted refused memory = refused
holds bytes (Err (FalseReport line)) accepted refused memory = refused

pub exactly : (bytes : List ℕ) (result : Answered) → IfOk result (IsAccepted bytes) → IfErr result (IsRefused bytes) → (result ≡ Err OutOfMemory → ⊥)
    → (answer : Answered) → IsAnswerTo bytes answer ↔ (answer ≡ result)
exactly bytes result accepted refused memory answer =
    let is = holds bytes result accepted refused memory in
    (λ h. one_answer bytes answer result h is, λ e. subst (IsAnswerTo bytes) (sym e) is)
